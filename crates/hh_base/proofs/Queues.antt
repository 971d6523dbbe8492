-- What keeps a queue of answers one in which only the end is last.
use Rattle.std.proofs.Common.{◌≡◌, ℕ, zero, suc, ◌-◌, Bool, true, false, not, ◌&&◌, Option, Some, None}
use Rattle.std.proofs.Common.{List, [], ◌∷◌, ◌++◌, length, take, refl, sym, ◌∙◌, ap, arith}
use Rattle.std.specs.Prelude.{slice_get, if◌then◌else◌}
use Rattle.std.specs.Cmp.Derive.{both_true}
use Rattle.hh_base.specs.declared.item.Item.{Item}
use Rattle.hh_base.specs.Queue.{ends_with_last, only_end_is_last}

is_last : Option Item → Bool
is_last (Some a) = a.last
is_last None = false

before_end : (n : ℕ) → suc n - 1 ≡ n
before_end n = omega arith

pub ends_with_last-rest : (a b : Item) (rest : List Item)
    → ends_with_last (a ∷ b ∷ rest) ≡ ends_with_last (b ∷ rest)
unfolding is_last
ends_with_last-rest a b rest =
    ap (λ (n : ℕ). is_last (slice_get (a ∷ b ∷ rest) n)) (before_end (length (b ∷ rest)))
    ∙ sym (ap (λ (n : ℕ). is_last (slice_get (b ∷ rest) n)) (before_end (length rest)))

not_last : (b : Bool) → b ≡ false → not b ≡ true
not_last b e = ap not e

first_of_both : (a b : Bool) → (a && b) ≡ true → a ≡ true
first_of_both true b e = refl
first_of_both false b e = e

second_of_both : (a b : Bool) → (a && b) ≡ true → b ≡ true
second_of_both true b e = e
second_of_both false true e = refl
second_of_both false false e = e

pub only_end-push : (q : List Item) (a : Item) → ends_with_last q ≡ false → only_end_is_last q ≡ true
    → only_end_is_last (q ++ a ∷ []) ≡ true
only_end-push [] a more queue = refl
only_end-push (b ∷ []) a more queue = both_true (not_last b.last more) refl
only_end-push (b ∷ c ∷ rest) a more queue =
    both_true (first_of_both _ _ queue)
    (only_end-push (c ∷ rest) a (sym (ends_with_last-rest b c rest) ∙ more)
    (second_of_both _ _ queue))

-- a push that may fail
if_only_end : (done : Bool) (q : List Item) (a : Item) → ends_with_last q ≡ false
    → only_end_is_last q ≡ true → only_end_is_last (if done then q ++ a ∷ [] else q) ≡ true
if_only_end true q a more queue = only_end-push q a more queue
if_only_end false q a more queue = queue

pub only_end-pushed : (done : Bool) (seen q pushed : List Item) (a : Item) → q ≡ seen
    → pushed ≡ (if done then q ++ a ∷ [] else q) → ends_with_last seen ≡ false → only_end_is_last q ≡ true
    → only_end_is_last pushed ≡ true
only_end-pushed done seen q pushed a is_seen is_pushed more queue =
    ap only_end_is_last is_pushed ∙ if_only_end done q a (ap ends_with_last is_seen ∙ more) queue

pub only_end-take : (n : ℕ) (q : List Item) → only_end_is_last q ≡ true → only_end_is_last (take n q) ≡ true
only_end-take zero q queue = refl
only_end-take (suc n) [] queue = refl
only_end-take (suc zero) (a ∷ []) queue = refl
only_end-take (suc (suc n)) (a ∷ []) queue = refl
only_end-take (suc zero) (a ∷ b ∷ rest) queue = refl
only_end-take (suc (suc n)) (a ∷ b ∷ rest) queue =
    both_true (first_of_both _ _ queue) (only_end-take (suc n) (b ∷ rest) (second_of_both _ _ queue))

-- what is left behind the first
pub only_end-rest : (a : Item) (q : List Item) → only_end_is_last (a ∷ q) ≡ true → only_end_is_last q ≡ true
only_end-rest a [] queue = refl
only_end-rest a (b ∷ rest) queue = second_of_both _ _ queue
