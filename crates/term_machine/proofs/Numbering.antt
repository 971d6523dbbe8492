-- The ids that the marks of new instances get.
use Rattle.std.proofs.Common.{◌≡◌, ℕ, zero, suc, ◌+◌, ◌<◌, ◌≤◌, Bool, true, false, cond, Option, Some, None, List, [], ◌∷◌, ◌++◌, length, refl, sym, ◌∙◌, ap, arith}
use Rattle.std.specs.Prelude.{◌==◌, if◌then◌else◌, is_some, nat_le}
use Rattle.std.proofs.lemmas.Bool.Decides.{nat_tests}
use Rattle.hh_base.specs.declared.value.Value.{Value}
use Rattle.hh_term.specs.Statement.{Statement, Pause, If, Suspend, Seq, Par, Loop, Trap, Local, Async}
use Rattle.hh_term.specs.Selection.{Selection, AtPause, AtAsync, First, Second, Both, Inside, Scope}
use Rattle.hh_term.specs.Marks.{IsMarkOf, ids_in}
use Rattle.hh_term.specs.Touches.{marks_numbered}
use Rattle.exec_instance.specs.declared.change.Change.{Change}
use Rattle.exec_instance.specs.declared.instance.Instance.{Instance}
use Rattle.exec_instance.specs.Effects.{born, new_args, last_after}
use Rattle.exec_instance.specs.Running.{holder}
use Rattle.exec_instance.proofs.Advancing.{of_args}
use Rattle.term_machine.specs.Standing.{times}

-- ids where those that are 0 get the next ids

abbrev pub number : ℕ → List ℕ → List ℕ
number last [] = []
number last (zero ∷ is) = suc last ∷ number (suc last) is
number last (suc n ∷ is) = suc n ∷ number last is

abbrev pub zeros : List ℕ → ℕ
zeros [] = 0
zeros (zero ∷ is) = suc (zeros is)
zeros (suc n ∷ is) = zeros is

abbrev after : ℕ → List ℕ → ℕ
after last [] = last
after last (zero ∷ is) = after (suc last) is
after last (suc n ∷ is) = after last is

number-append : (last : ℕ) (xs ys : List ℕ) → number last (xs ++ ys) ≡ number last xs ++ number (after last xs) ys
number-append last [] ys = refl
number-append last (zero ∷ xs) ys = ap (λ (is : List ℕ). suc last ∷ is) (number-append (suc last) xs ys)
number-append last (suc n ∷ xs) ys = ap (λ (is : List ℕ). suc n ∷ is) (number-append last xs ys)

after-append : (last : ℕ) (xs ys : List ℕ) → after last (xs ++ ys) ≡ after (after last xs) ys
after-append last [] ys = refl
after-append last (zero ∷ xs) ys = after-append (suc last) xs ys
after-append last (suc n ∷ xs) ys = after-append last xs ys

-- the marks of a selection are numbered so

pub record Numbered (last : ℕ) (m : Selection) : Type 0 where
  pub ids : ids_in (marks_numbered last m).0 ≡ number last (ids_in m)
  pub next : (marks_numbered last m).1 ≡ after last (ids_in m)

pub numbers : (last : ℕ) (m : Selection) → Numbered last m
numbers last AtPause = record { ids = refl; next = refl }
numbers last (AtAsync zero args queue suspended) = record { ids = refl; next = refl }
numbers last (AtAsync (suc n) args queue suspended) = record { ids = refl; next = refl }
numbers last (First m) = let n = numbers last m in record { ids = n.ids; next = n.next }
numbers last (Second m) = let n = numbers last m in record { ids = n.ids; next = n.next }
numbers last (Both m k) =
    let n = numbers last m in
    let l = numbers (marks_numbered last m).1 k in
    record {
      ids = ap (λ (is : List ℕ). is ++ ids_in (marks_numbered (marks_numbered last m).1 k).0) n.ids ∙ ap (λ (is : List ℕ). number last (ids_in m) ++ is) (l.ids ∙ ap (λ (x : ℕ). number x (ids_in k)) n.next) ∙ sym (number-append last (ids_in m) (ids_in k));
      next = l.next ∙ ap (λ (x : ℕ). after x (ids_in k)) n.next ∙ sym (after-append last (ids_in m) (ids_in k));
    }
numbers last (Inside m) = let n = numbers last m in record { ids = n.ids; next = n.next }
numbers last (Scope m b v) = let n = numbers last m in record { ids = n.ids; next = n.next }

pub numbered_is : (p : Statement) (last : ℕ) (m : Selection) → IsMarkOf p m → IsMarkOf p (marks_numbered last m).0
numbered_is Pause last AtPause h = tt
numbered_is (Async n) last (AtAsync zero args queue suspended) h = tt
numbered_is (Async n) last (AtAsync (suc id) args queue suspended) h = tt
numbered_is (If e p q) last (First m) h = numbered_is p last m h
numbered_is (If e p q) last (Second m) h = numbered_is q last m h
numbered_is (Suspend e p) last (Inside m) h = numbered_is p last m h
numbered_is (Seq p q) last (First m) h = numbered_is p last m h
numbered_is (Seq p q) last (Second m) h = numbered_is q last m h
numbered_is (Par p q) last (First m) h = numbered_is p last m h
numbered_is (Par p q) last (Second m) h = numbered_is q last m h
numbered_is (Par p q) last (Both m n) h = (numbered_is p last m h.0, numbered_is q (marks_numbered last m).1 n h.1)
numbered_is (Loop p) last (Inside m) h = numbered_is p last m h
numbered_is (Trap p) last (Inside m) h = numbered_is p last m h
numbered_is (Local s p) last (Scope m b v) h = numbered_is p last m h
numbered_is _ last _ h = absurd h

-- how often an id stands among numbered ones

differ : (a b : ℕ) → a < b → (b == a) ≡ false
differ a b h = grind (arith, nat_tests)

pub number_none : (last : ℕ) (is : List ℕ) → times 0 (number last is) ≡ 0
number_none last [] = refl
number_none last (zero ∷ is) = ap (λ (b : Bool). cond b (suc (times 0 (number (suc last) is))) (times 0 (number (suc last) is))) (differ 0 (suc last) (omega arith)) ∙ number_none (suc last) is
number_none last (suc n ∷ is) = ap (λ (b : Bool). cond b (suc (times 0 (number last is))) (times 0 (number last is))) (differ 0 (suc n) (omega arith)) ∙ number_none last is

zero_apart : (id : ℕ) → 1 ≤ id → (0 == id) ≡ false
zero_apart id h = grind (arith, nat_tests)

pub number_low : (last id : ℕ) (is : List ℕ) → 1 ≤ id → id ≤ last → times id (number last is) ≡ times id is
number_low last id [] h g = refl
number_low last id (zero ∷ is) h g =
    ap (λ (b : Bool). cond b (suc (times id (number (suc last) is))) (times id (number (suc last) is))) (differ id (suc last) (omega arith)) ∙ number_low (suc last) id is h (omega arith)
    ∙ sym (ap (λ (b : Bool). cond b (suc (times id is)) (times id is)) (zero_apart id h))
number_low last id (suc n ∷ is) h g = ap (λ (k : ℕ). cond (suc n == id) (suc k) k) (number_low last id is h g)

abbrev pub one_if : Bool → ℕ
one_if b = if b then 1 else 0

cond_none : (b : Bool) (n : ℕ) → cond b (suc n) n ≡ 0 → (b ≡ false) × (n ≡ 0)
cond_none true n e = absurd (omega arith)
cond_none false n e = (refl, e)

at_first : (last id z : ℕ) → id ≡ suc last → one_if (nat_le id (last + suc z)) ≡ 1
at_first last id z e = ap one_if (in_range last id z e)
  where
    in_range : (last id z : ℕ) → id ≡ suc last → nat_le id (last + suc z) ≡ true
    in_range last id z e = grind (arith, nat_tests)

shift : (last z : ℕ) → suc last + z ≡ last + suc z
shift last z = omega arith

past_all : (last id : ℕ) → last < id → nat_le id (last + 0) ≡ false
past_all last id h = grind (arith, nat_tests)

same_test : (a b : ℕ) → (a == b) ≡ true → b ≡ a
same_test a b e = grind (arith, nat_tests)

other_test : (a b : ℕ) → (a == b) ≡ false → a ≤ b → a < b
other_test a b e h = grind (arith, nat_tests)

number_head : (last id : ℕ) (is : List ℕ) (b : Bool) → (suc last == id) ≡ b → last < id → times id is ≡ 0 → (suc last < id → times id (number (suc last) is) ≡ one_if (nat_le id (suc last + zeros is))) → cond b (suc (times id (number (suc last) is))) (times id (number (suc last) is)) ≡ one_if (nat_le id (last + suc (zeros is)))
number_head last id is true same h rest later =
    let here : id ≡ suc last = same_test (suc last) id same in ap suc (number_low (suc last) id is (omega arith) (omega arith) ∙ rest) ∙ sym (at_first last id (zeros is) here)
number_head last id is false apart h rest later = later (other_test (suc last) id apart (omega arith)) ∙ ap (λ (n : ℕ). one_if (nat_le id n)) (shift last (zeros is))

pub number_high : (last id : ℕ) (is : List ℕ) → last < id → times id is ≡ 0 → times id (number last is) ≡ one_if (nat_le id (last + zeros is))
number_high last id [] h e = sym (ap one_if (past_all last id h))
number_high last id (zero ∷ is) h e =
    let rest : times id is ≡ 0 = sym (ap (λ (b : Bool). cond b (suc (times id is)) (times id is)) (zero_apart id (omega arith))) ∙ e in
    number_head last id is (suc last == id) refl h rest (λ g. number_high (suc last) id is g rest)
number_high last id (suc n ∷ is) h e =
    let p = cond_none (suc n == id) (times id is) e in
    ap (λ (b : Bool). cond b (suc (times id (number last is))) (times id (number last is))) p.0 ∙ number_high last id is h p.1

-- new instances by id

born_head : (last id : ℕ) (i : Instance) (rest : List Instance) (n : ℕ) → i.id ≡ suc last → last < id → (suc last < id → is_some (holder rest id) ≡ nat_le id (suc last + n)) → is_some (cond (i.id == id) (Some i) (holder rest id)) ≡ nat_le id (last + suc n)
born_head last id i rest n is h later = ap (λ (k : ℕ). is_some (cond (k == id) (Some i) (holder rest id))) is ∙ at (suc last == id) refl
  where
    in_range : (last id z : ℕ) → id ≡ suc last → true ≡ nat_le id (last + suc z)
    in_range last id z e = grind (arith, nat_tests)

    at : (b : Bool) → (suc last == id) ≡ b → is_some (cond b (Some i) (holder rest id)) ≡ nat_le id (last + suc n)
    at true same = in_range last id n (same_test (suc last) id same)
    at false apart = later (other_test (suc last) id apart (omega arith)) ∙ ap (nat_le id) (shift last n)

born_args : (last id : ℕ) (c : Change) (cs : List Change) (o : Option (List Value)) → last < id → ((n : ℕ) → n < id → is_some (holder (born n cs) id) ≡ nat_le id (n + length (born n cs))) → is_some (holder (of_args last c cs o) id) ≡ nat_le id (last + length (of_args last c cs o))
born_args last id c cs (Some args) h rest = born_head last id (record { id = suc last; body = c.body; args = args; queue = []; suspended = false }) (born (suc last) cs) (length (born (suc last) cs)) refl h (rest (suc last))
born_args last id c cs None h rest = rest last h

pub born_high : (id : ℕ) (cs : List Change) (last : ℕ) → last < id → is_some (holder (born last cs) id) ≡ nat_le id (last_after last cs)
born_high id [] last h = sym (past_all last id h)
born_high id (c ∷ cs) last h = born_args last id c cs (new_args c) h (born_high id cs)
