-- Which bodies are covered, and what they answer.
use Rattle.std.proofs.Common.{◌≡◌, ◌<◌, ◌≤◌, ◌+◌, ◌++◌, ◌∷◌, [], ℕ, Bool, true, false, Option, Some, None}
use Rattle.std.proofs.Common.{List, All, get_or, length, take, sym, ap, subst, ◌∙◌, arith, IsTrue, is_some}
use Rattle.std.proofs.Common.{Result, Ok, Err}
use Rattle.std.proofs.Math.Seq.{take-length}
use Rattle.std.proofs.lemmas.List.{take_more}
use Rattle.std.proofs.lemmas.List.Elements.{All-push}
use Rattle.std.specs.Prelude.{IfOk, MatchOption}
use Rattle.std.specs.Option.{option_copied}
use Rattle.std.specs.Borrow.{Bor}
use Rattle.std.proofs.Math.Logic.{∥∥₁_elim}
use Rattle.hh_base.specs.declared.memory.NoMemory.{NoMemory}
use Rattle.hh_base.specs.declared.value.Value.{Value}
use Rattle.host_expr.specs.declared.expr.Expr.{Expr}
use Rattle.hh_term.specs.declared.program.BodyDecl.{BodyDecl}
use Rattle.host_hooks.specs.Allowed.{Answers, AnswersTo, HasHook, IsCovered, IsHookOf}
use Rattle.host_hooks.specs.Law.{IsAllowedBy, kinds_of}
use Rattle.host_hooks.specs.Promise.{Promise}
use Rattle.host_hooks.proofs.Propositions.{allowed_prop}

module _ (hooks : List Promise) (b : BodyDecl) where
  pub written_covered : (e : Expr ℕ) → b.expr ≡ Some e → IsCovered hooks b
  written_covered e is = subst (HasHook hooks b) (sym is) tt

  pub host_covered : b.expr ≡ None → (h : Promise) × IsHookOf hooks b h → IsCovered hooks b
  host_covered is hook = subst (HasHook hooks b) (sym is) hook

  pub hook_of_covered : b.expr ≡ None → IsCovered hooks b → (h : Promise) × IsHookOf hooks b h
  hook_of_covered is covered = subst (HasHook hooks b) is covered

  -- a host body is covered exactly where a hook is found
  pub found_covers : {H : Type 0} (promise : H → Promise) (o : Option (Bor H)) → b.expr ≡ None
      → MatchOption (option_copied o) ((h : Promise) → IsHookOf hooks b h
      → ⊥) (λ h. IsHookOf hooks b (promise h))
      → (r : Bool) → r ≡ is_some o → (IsTrue r → IsCovered hooks b) × (IsCovered hooks b → IsTrue r)
  found_covers promise (Some h) is found r e = ((λ _. host_covered is (promise h.now, found)), (λ _. e))
  found_covers promise None is lacks r e = (
    (λ t. absurd (let no : false ≡ true = sym e ∙ t in cc)),
    (λ covered. let hook = hook_of_covered is
        covered in absurd (lacks hook.0 hook.1)),
  )

  -- what its hook answers is what it may answer
  pub hook_answers : (h : Promise) (args : List Value) (r : Result Value NoMemory) → b.expr ≡ None
      → IsHookOf hooks b h → kinds_of args ≡ b.params
      → IfOk r (λ v. ∥ IsAllowedBy h.law h.answer args v ∥₁) → IfOk r (AnswersTo hooks b args)
  hook_answers h args (Ok v) none is kinds allowed =
      let lawful : IsAllowedBy h.law h.answer args v = ∥∥₁_elim allowed (allowed_prop h.law h.answer args v)
      (λ a. a) in
      record {
        fitting = λ _. subst (λ o. Answers hooks b o args v) (sym none) (
          h,
          is,
          subst (λ k. IsAllowedBy h.law
              k args v) is.answer lawful,
        );
        unfitting = λ other. absurd (other kinds);
      }
  hook_answers h args (Err e) none is kinds allowed = tt

-- ---- a walk over a list that has seen its first elements
pub all_more : {X : Type 0} (P : X → Type 0) (xs : List X) (i : ℕ) (x : X) → i < length xs
    → x ≡ get_or xs i x → All P (take i xs) → P x → All P (take (i + 1) xs)
all_more P xs i x l read all p = subst (All P) (sym (take_more xs i x l
    ∙ ap (λ y. take i xs ++ y ∷ []) (sym read))) (All-push P (take i xs) x all p)

pub all_seen : {X : Type 0} (P : X → Type 0) (xs : List X) (i : ℕ) → i ≤ length xs → length xs ≤ i
    → All P (take i xs) → All P xs
all_seen P xs i le ge all =
    let same : i ≡ length xs = omega arith in
    subst (All P) (ap (λ k. take k xs) same ∙ take-length xs) all
