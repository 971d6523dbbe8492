-- The new instances, and the change of each instance, as the code finds them one after another.
use Rattle.std.proofs.Common.{◌≡◌, ℕ, suc, ◌+◌, ◌<◌, ◌≤◌, ◌^◌, Bool, true, false, Option, Some, None, List, [], ◌∷◌, ◌++◌, length, take, drop, get_or, refl, sym, ◌∙◌, ap, subst, arith, add-one, drop-cons, append-nil, append_assoc, length-append}
use Rattle.std.specs.Prelude.{if◌then◌else◌, IfSome, not, ◌&&◌}
use Rattle.std.proofs.Math.ListN.{drop_of_length-le}
use Rattle.std.specs.List.{filter_map, cons_option}
use Rattle.std.specs.Option.{option_to_list}
use Rattle.std.proofs.lemmas.List.{take_more}
use Rattle.std.proofs.lemmas.List.Elements.{filter_map-append}
use Rattle.exec_instance.specs.declared.effect.Effect.{Effect}
use Rattle.hh_base.specs.declared.value.Value.{Value}
use Rattle.exec_instance.specs.declared.change.Change.{Change}
use Rattle.exec_instance.specs.declared.instance.Instance.{Instance}
use Rattle.exec_instance.specs.Running.{RiseFrom, IsRising}
use Rattle.exec_instance.specs.Effects.{new_args, born, last_after, after_change, changed, kept}
use Rattle.exec_instance.proofs.Holding.{Rise-lower}

-- the new instances of the first k changes are there
pub record Bearing (last : ℕ) (changes : List Change) (k id : ℕ) (items : List Instance) : Type 0 where
  pub rest : born last changes ≡ items ++ born id (drop k changes)
  pub given : id ≡ last + length items

pub none_born : (last : ℕ) (changes : List Change) → Bearing last changes 0 last []
none_born last changes = record { rest = refl; given = omega arith }

new_instance : ℕ → Change → List Value → Instance
new_instance id c args = record { id = id; body = c.body; args = args; queue = []; suspended = false }

abbrev pub of_args : ℕ → Change → List Change → Option (List Value) → List Instance
of_args id c cs (Some args) = record { id = suc id; body = c.body; args = args; queue = []; suspended = false } ∷ born (suc id) cs
of_args id c cs None = born id cs

born-args : (id : ℕ) (c : Change) (cs : List Change) (args : List Value) → new_args c ≡ Some args → born id (c ∷ cs) ≡ new_instance (suc id) c args ∷ born (suc id) cs
unfolding new_instance
born-args id c cs args e = ap (λ (o : Option (List Value)). of_args id c cs o) e

born-none : (id : ℕ) (c : Change) (cs : List Change) → new_args c ≡ None → born id (c ∷ cs) ≡ born id cs
born-none id c cs e = ap (λ (o : Option (List Value)). of_args id c cs o) e

module _ (last : ℕ) (changes : List Change) (k id : ℕ) (items : List Instance) (b : Bearing last changes k id items) (c : Change) (within : k < length changes) (is : c ≡ get_or changes k c) where
  here : drop k changes ≡ c ∷ drop (k + 1) changes
  here = drop-cons changes k c within ∙ ap (λ (x : Change). x ∷ drop (suc k) changes) (sym is) ∙ ap (λ (m : ℕ). c ∷ drop m changes) (sym (add-one k))

  pub no_birth : new_args c ≡ None → Bearing last changes (k + 1) id items
  no_birth e = record { rest = b.rest ∙ ap (λ (cs : List Change). items ++ born id cs) here ∙ ap (λ (is : List Instance). items ++ is) (born-none id c (drop (k + 1) changes) e); given = b.given }

  born_here : (args : List Value) → new_args c ≡ Some args → born last changes ≡ items ++ (new_instance (suc id) c args ∷ born (suc id) (drop (k + 1) changes))
  born_here args e = b.rest ∙ ap (λ (cs : List Change). items ++ born id cs) here ∙ ap (λ (is : List Instance). items ++ is) (born-args id c (drop (k + 1) changes) args e)

  pub id_fits : (args : List Value) → new_args c ≡ Some args → last_after last changes < 2 ^ 64 → id + 1 < 2 ^ 64
  id_fits args e fits =
      let n : length (born last changes) ≡ length items + length (new_instance (suc id) c args ∷ born (suc id) (drop (k + 1) changes)) =
      ap length (born_here args e) ∙ length-append items (new_instance (suc id) c args ∷ born (suc id) (drop (k + 1) changes)) in
      let g : id ≡ last + length items = b.given in
      omega arith

  pub birth : (args : List Value) (items' : List Instance) → new_args c ≡ Some args → items' ≡ items ++ record { id = id + 1; body = c.body; args = args; queue = []; suspended = false } ∷ [] → Bearing last changes (k + 1) (id + 1) items'
  unfolding new_instance
  birth args items' e f =
      record {
        rest =
            born_here args e ∙ ap (λ (m : ℕ). items ++ (new_instance m c args ∷ born m (drop (k + 1) changes))) (sym (add-one id))
            ∙ sym (append_assoc items (new_instance (id + 1) c args ∷ []) (born (id + 1) (drop (k + 1) changes)))
            ∙ ap (λ (is : List Instance). is ++ born (id + 1) (drop (k + 1) changes)) (sym f);
        given = let n : length items' ≡ length items + 1 = ap length f ∙ length-append items (record { id = id + 1; body = c.body; args = args; queue = []; suspended = false } ∷ []) in let g : id ≡ last + length items = b.given in omega arith;
      }

pub all_born : (last : ℕ) (changes : List Change) (k id : ℕ) (items : List Instance) → Bearing last changes k id items → length changes ≤ k → items ≡ born last changes
all_born last changes k id items b whole = sym (b.rest ∙ ap (λ (cs : List Change). items ++ born id cs) (drop_of_length-le changes whole) ∙ append-nil items)

-- one more item of a list that is filtered and changed

one_item : {X Y : Type 0} (h : X → Option Y) (x : X) (o : Option Y) → h x ≡ o → filter_map h (x ∷ []) ≡ option_to_list o
one_item h x (Some y) e = rw (e, filter_map) refl
one_item h x None e = rw (e, filter_map) refl

pub filter_map-more : {X Y : Type 0} (h : X → Option Y) (xs : List X) (k : ℕ) (x : X) → k < length xs → x ≡ get_or xs k x → filter_map h (take (k + 1) xs) ≡ filter_map h (take k xs) ++ option_to_list (h x)
filter_map-more h xs k x within is =
    ap (filter_map h) (take_more xs k x within) ∙ ap (λ y. filter_map h (take k xs ++ y ∷ [])) (sym is) ∙ filter_map-append h (take k xs) (x ∷ []) ∙ ap (λ ys. filter_map h (take k xs) ++ ys) (one_item h x (h x) refl)

pub row_step : (told0 told told' : List Effect) (h : Instance → Option Effect) (xs : List Instance) (k : ℕ) (x : Instance) (effect : Option Effect) → told ≡ told0 ++ filter_map h (take k xs) → effect ≡ h x → told' ≡ told ++ option_to_list effect → k < length xs → x ≡ get_or xs k x → told' ≡ told0 ++ filter_map h (take (k + 1) xs)
row_step told0 told told' h xs k x effect so_far is_effect is_told within is =
    is_told ∙ ap (λ (o : Option Effect). told ++ option_to_list o) is_effect ∙ ap (λ (es : List Effect). es ++ option_to_list (h x)) so_far ∙ append_assoc told0 (filter_map h (take k xs)) (option_to_list (h x)) ∙ ap (λ (es : List Effect). told0 ++ es) (sym (filter_map-more h xs k x within is))

-- two look-ups that find the same keep and tell the same

pub filter_map-agree : {X Y : Type 0} (g h : X → Option Y) → ((x : X) → g x ≡ h x) → (xs : List X) → filter_map g xs ≡ filter_map h xs
filter_map-agree g h same [] = refl
filter_map-agree g h same (x ∷ xs) = simp (same x, filter_map-agree g h same xs) refl

-- what runs after rises

Rise-optional : (low : ℕ) (i : Instance) (o : Option Instance) (is : List Instance) (last : ℕ) → low < i.id → IfSome o (λ j. j.id ≡ i.id) → RiseFrom i.id is last → RiseFrom low (cons_option o is) last
Rise-optional low i (Some j) is last h e rise = (let f : j.id ≡ i.id = e in omega arith, subst (λ (n : ℕ). RiseFrom n is last) (sym e) rise)
Rise-optional low i None is last h e rise = Rise-lower i.id low is last (omega arith) rise

if_same_id : (b : Bool) (i j : Instance) → j.id ≡ i.id → IfSome (if b then Some j else None) (λ k. k.id ≡ i.id)
if_same_id true i j e = e
if_same_id false i j e = tt

after_change-id : (i : Instance) (o : Option Change) → IfSome (after_change i o) (λ j. j.id ≡ i.id)
after_change-id i (Some c) = if_same_id (not c.ended && c.runs_after) i (changed i c) refl
after_change-id i None = refl

Rise-kept : (f : ℕ → Option Change) (low : ℕ) (running : List Instance) (last : ℕ) → RiseFrom low running last → RiseFrom low (kept f running) last
Rise-kept f low [] last rise = rise
Rise-kept f low (i ∷ is) last rise = Rise-optional low i (after_change i (f i.id)) (kept f is) last rise.0 (after_change-id i (f i.id)) (Rise-kept f i.id is last rise.1)

Rise-append : (low : ℕ) (xs ys : List Instance) (last end : ℕ) → RiseFrom low xs last → RiseFrom last ys end → RiseFrom low (xs ++ ys) end
Rise-append low [] ys last end first second = Rise-lower last low ys end first second
Rise-append low (x ∷ xs) ys last end first second = (first.0, Rise-append x.id xs ys last end first.1 second)

Rise-args : (last : ℕ) (c : Change) (cs : List Change) (o : Option (List Value)) → ((n : ℕ) → RiseFrom n (born n cs) (n + length (born n cs))) → RiseFrom last (of_args last c cs o) (last + length (of_args last c cs o))
Rise-args last c cs (Some args) rise = (omega arith, subst (λ (n : ℕ). RiseFrom (suc last) (born (suc last) cs) n) (let n : ℕ = length (born (suc last) cs) in omega arith) (rise (suc last)))
Rise-args last c cs None rise = rise last

pub Rise-born : (cs : List Change) (last : ℕ) → RiseFrom last (born last cs) (last_after last cs)
Rise-born [] last = omega arith
Rise-born (c ∷ cs) last = Rise-args last c cs (new_args c) (Rise-born cs)

pub Rise-advanced : (f : ℕ → Option Change) (last : ℕ) (changes : List Change) (running : List Instance) → IsRising running last → RiseFrom 0 (kept f running ++ born last changes) (last_after last changes)
Rise-advanced f last changes running rise = Rise-append 0 (kept f running) (born last changes) last (last_after last changes) (Rise-kept f 0 running last rise) (Rise-born changes last)
