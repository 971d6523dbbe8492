-- How many ids the changes take.
use Rattle.std.proofs.Common.{◌≡◌, ℕ, suc, Bool, true, false, cond, Option, Some, None, List, [], ◌∷◌, length, refl, sym, ◌∙◌, ap, arith}
use Rattle.std.specs.Prelude.{if◌then◌else◌, is_some, ◌&&◌, count_by, nat_le, ◌-◌, ◌<◌, ◌≤◌, ◌^◌, ◌↔◌, IsTrue, filter}
use Rattle.std.proofs.lemmas.Bool.Decides.{nat_tests}
use Rattle.std.proofs.lemmas.List.Sums.{length-filter}
use Rattle.hh_base.specs.declared.value.Value.{Value}
use Rattle.exec_instance.specs.declared.change.Change.{Change}
use Rattle.exec_instance.specs.Effects.{takes_id, born, last_after}
use Rattle.exec_instance.proofs.Advancing.{of_args}

one_born : (c : Change) (cs : List Change) (n : ℕ) (b : Bool) (o : Option (List Value)) → ((m : ℕ) → length (born m cs) ≡ n) → (last : ℕ) → length (of_args last c cs (if b then o else None)) ≡ cond (is_some o && b) (suc n) n
one_born c cs n true (Some args) rest last = ap suc (rest (suc last))
one_born c cs n true None rest last = rest last
one_born c cs n false (Some args) rest last = rest last
one_born c cs n false None rest last = rest last

length-cond : (b : Bool) (c : Change) (cs : List Change) → length (cond b (c ∷ cs) cs) ≡ cond b (suc (length cs)) (length cs)
length-cond true c cs = refl
length-cond false c cs = refl

length-born_filter : (changes : List Change) (last : ℕ) → length (born last changes) ≡ length (filter takes_id changes)
length-born_filter [] last = refl
length-born_filter (c ∷ cs) last = one_born c cs (length (filter takes_id cs)) c.runs_after c.started (length-born_filter cs) last ∙ sym (length-cond (takes_id c) c (filter takes_id cs))

pub length-born : (changes : List Change) (last : ℕ) → length (born last changes) ≡ count_by takes_id changes
length-born changes last = length-born_filter changes last ∙ length-filter takes_id changes

leb_true : (a b : ℕ) → nat_le a b ≡ true → a ≤ b
leb_true a b e = grind (arith, nat_tests)

true_leb : (a b : ℕ) → a ≤ b → nat_le a b ≡ true
true_leb a b h = grind (arith, nat_tests)

pub ids_left : (last here new : ℕ) (changes : List Change) (answer : Bool) → here ≡ last → new ≡ count_by takes_id changes → answer ≡ nat_le new (18446744073709551615 - here) → here < 2 ^ 64 → IsTrue answer ↔ (last_after last changes < 2 ^ 64)
ids_left last here new changes answer is_here is_new is_answer fits =
    let e : length (born last changes) ≡ new = length-born changes last ∙ sym is_new in (
      (λ holds. let h : new ≤ 18446744073709551615 - here = leb_true new (18446744073709551615 - here) (sym is_answer ∙ holds) in omega arith),
      λ below. is_answer ∙ true_leb new (18446744073709551615 - here) (omega arith),
    )
