-- Queues that are cut back to the lengths that they had.
use Rattle.std.proofs.Common.{◌≡◌, ℕ, zero, suc, ◌+◌, ◌<◌, ◌≤◌, List, [], ◌∷◌, ◌++◌, length, map, take, get_or, refl, sym, ◌∙◌, ap, subst, arith, add-one, append-nil, append_assoc}
use Rattle.std.specs.Prelude.{slice_set, if◌then◌else◌, Bool, true, false, ◌==◌}
use Rattle.hh_base.specs.declared.item.Item.{Item}
use Rattle.exec_instance.specs.declared.answer.Answer.{Answer}
use Rattle.exec_instance.specs.declared.instance.Instance.{Instance}
use Rattle.exec_instance.specs.Running.{Running, RiseFrom, IsRising}
use Rattle.exec_instance.specs.Entering.{item_of, with_item}
use Rattle.exec_instance.specs.Places.{queue_length, shortened}

abbrev pub cut : ℕ → Instance → Instance
cut n i = record i { queue = take n i.queue }

-- the first of them are cut
abbrev pub shortened_up_to : ℕ → List ℕ → List Instance → List Instance
shortened_up_to zero ns is = is
shortened_up_to (suc k) ns [] = []
shortened_up_to (suc k) [] (i ∷ is) = i ∷ is
shortened_up_to (suc k) (n ∷ ns) (i ∷ is) = cut n i ∷ shortened_up_to k ns is

behind : (i : Instance) (is js : List Instance) → is ≡ js → i ∷ is ≡ i ∷ js
behind i is js e = ap (λ (xs : List Instance). i ∷ xs) e

step_at : (k : ℕ) (ns : List ℕ) (is : List Instance) (d : Instance) → k < length is → length ns ≡ length is → slice_set (shortened_up_to k ns is) k (cut (get_or ns k 0) (get_or (shortened_up_to k ns is) k d)) ≡ shortened_up_to (suc k) ns is
step_at k ns [] d h e = absurd (omega arith)
step_at k [] (i ∷ is) d h e = absurd (omega arith)
step_at zero (n ∷ ns) (i ∷ is) d h e = refl
step_at (suc k) (n ∷ ns) (i ∷ is) d h e = behind _ _ _ (step_at k ns is d (omega arith) (omega arith))

pub shorten_step : (k : ℕ) (ns : List ℕ) (is cur : List Instance) (x : Instance) (n : ℕ) (q : List Item) → cur ≡ shortened_up_to k ns is → k < length cur → length ns ≡ length is → length cur ≡ length is → x ≡ get_or cur k x → n ≡ get_or ns k 0 → q ≡ take n x.queue → slice_set cur k (record x { queue = q }) ≡ shortened_up_to (k + 1) ns is
shorten_step k ns is cur x n q is_cur h e f is_x is_n is_q =
    let at : x ≡ get_or (shortened_up_to k ns is) k x = is_x ∙ ap (λ (xs : List Instance). get_or xs k x) is_cur in
    let a : record x { queue = q } ≡ cut n x = ap (λ (p : List Item). record x { queue = p }) is_q in
    let b : cut n x ≡ cut (get_or ns k 0) (get_or (shortened_up_to k ns is) k x) = ap (λ (m : ℕ). cut m x) is_n ∙ ap (cut (get_or ns k 0)) at in
    ap (λ (xs : List Instance). slice_set xs k (record x { queue = q })) is_cur ∙ ap (slice_set (shortened_up_to k ns is) k) (a ∙ b) ∙ step_at k ns is x (omega arith) e ∙ sym (ap (λ (m : ℕ). shortened_up_to m ns is) (add-one k))

shortened_whole : (ns : List ℕ) (is : List Instance) → length ns ≡ length is → shortened_up_to (length is) ns is ≡ shortened ns is
shortened_whole [] [] e = refl
shortened_whole [] (i ∷ is) e = absurd (omega arith)
shortened_whole (n ∷ ns) [] e = absurd (omega arith)
shortened_whole (n ∷ ns) (i ∷ is) e = behind _ _ _ (shortened_whole ns is (omega arith))

pub shortened_end : (k : ℕ) (ns : List ℕ) (is cur : List Instance) → cur ≡ shortened_up_to k ns is → k ≡ length is → length ns ≡ length is → cur ≡ shortened ns is
shortened_end k ns is cur is_cur whole e = is_cur ∙ ap (λ (m : ℕ). shortened_up_to m ns is) whole ∙ shortened_whole ns is e

-- ids stay

Rise-shortened : (ns : List ℕ) (low : ℕ) (is : List Instance) (last : ℕ) → RiseFrom low is last → RiseFrom low (shortened ns is) last
Rise-shortened [] low is last rise = rise
Rise-shortened (n ∷ ns) low [] last rise = rise
Rise-shortened (n ∷ ns) low (i ∷ is) last rise = (rise.0, Rise-shortened ns i.id is last rise.1)

pub shortened_rises : (ns : List ℕ) (is cur : List Instance) (last : ℕ) → cur ≡ shortened ns is → IsRising is last → IsRising cur last
shortened_rises ns is cur last e rise = subst (λ (xs : List Instance). IsRising xs last) (sym e) (Rise-shortened ns 0 is last rise)

-- the queues of the later ones begin with those of the earlier ones, and all else is the same
abbrev pub Extends : List Instance → List Instance → Type 0
Extends [] [] = Unit {0}
Extends (i ∷ is) (j ∷ js) = ((more : List Item) × (j ≡ record i { queue = i.queue ++ more })) × Extends is js
Extends _ _ = ⊥

pub Extends-itself : (is : List Instance) → Extends is is
Extends-itself [] = tt
Extends-itself (i ∷ is) = (([], ap (λ (q : List Item). record i { queue = q }) (sym (append-nil i.queue))), Extends-itself is)

take_back : (xs ys : List Item) → take (length xs) (xs ++ ys) ≡ xs
take_back [] ys = refl
take_back (x ∷ xs) ys = ap (λ (q : List Item). x ∷ q) (take_back xs ys)

cut_back : (i j : Instance) (more : List Item) → j ≡ record i { queue = i.queue ++ more } → cut (queue_length i) j ≡ i
cut_back i j more e = ap (cut (queue_length i)) e ∙ ap (λ (q : List Item). record i { queue = q }) (take_back i.queue more)

pub undone : (is js : List Instance) → Extends is js → shortened (map queue_length is) js ≡ is
undone [] [] e = refl
undone [] (j ∷ js) e = absurd e
undone (i ∷ is) [] e = absurd e
undone (i ∷ is) (j ∷ js) e = ap (λ (x : Instance). x ∷ shortened (map queue_length is) js) (cut_back i j e.0.0 e.0.1) ∙ behind _ _ _ (undone is js e.1)

extend_if : (b : Bool) (i j : Instance) (more : List Item) (a : Item) → j ≡ record i { queue = i.queue ++ more } → (rest : List Item) × ((if b then record j { queue = j.queue ++ a ∷ [] } else j) ≡ record i { queue = i.queue ++ rest })
extend_if true i j more a e =
    (more ++ a ∷ [], ap (λ (x : Instance). record x { queue = x.queue ++ a ∷ [] }) e ∙ ap (λ (q : List Item). record i { queue = q }) (append_assoc i.queue more (a ∷ [])))
extend_if false i j more a e = (more, e)

pub Extends-with_item : (a : Answer) (is js : List Instance) → Extends is js → Extends is (map (with_item a) js)
Extends-with_item a [] [] e = tt
Extends-with_item a [] (j ∷ js) e = absurd e
Extends-with_item a (i ∷ is) [] e = absurd e
Extends-with_item a (i ∷ is) (j ∷ js) e = (extend_if (j.id == a.id) i j e.0.0 (item_of a) e.0.1, Extends-with_item a is js e.1)

pub length_extended : (is js : List Instance) → Extends is js → length js ≡ length is
length_extended [] [] e = refl
length_extended [] (j ∷ js) e = absurd e
length_extended (i ∷ is) [] e = absurd e
length_extended (i ∷ is) (j ∷ js) e = ap suc (length_extended is js e.1)

-- what the code has once its loop is through: the vector's list behind a slice that was written
front : (xs ys : List Instance) → take (length xs) (xs ++ ys) ≡ xs
front [] ys = refl
front (x ∷ xs) ys = ap (λ (q : List Instance). x ∷ q) (front xs ys)

whole_of : (n : ℕ) (xs ys : List Instance) → n ≡ length xs → take n (xs ++ ys) ≡ xs
whole_of n xs ys e = ap (λ (m : ℕ). take m (xs ++ ys)) e ∙ front xs ys

pub written : (ns : List ℕ) (k len : ℕ) (items seen cur rest : List Instance) → cur ≡ shortened_up_to k ns seen → seen ≡ items → length ns ≡ length seen → k ≤ length seen → length seen ≤ k → length seen ≡ len → length cur ≡ length seen → take len (cur ++ rest) ≡ shortened ns items
written ns k len items seen cur rest is_cur is_seen e below above is_len f =
    whole_of len cur rest (omega arith) ∙ shortened_end k ns seen cur is_cur (omega arith) e ∙ ap (shortened ns) is_seen

pub shortened_now : (now : Running) (last : ℕ) (ns : List ℕ) (items after : List Instance) → record { last = last; instances = items } ≡ now → after ≡ shortened ns items → record { last = last; instances = after } ≡ record now { instances = shortened ns now.instances }
shortened_now now last ns items after view e = ap (λ (xs : List Instance). record { last = last; instances = xs }) e ∙ ap (λ (w : Running). record w { instances = shortened ns w.instances }) view

pub same_length : (now : Running) (last : ℕ) (ns : List ℕ) (items seen : List Instance) → record { last = last; instances = items } ≡ now → length ns ≡ length now.instances → seen ≡ items → length ns ≡ length seen
same_length now last ns items seen view e f = e ∙ ap (λ (w : Running). length w.instances) (sym view) ∙ ap length (sym f)
