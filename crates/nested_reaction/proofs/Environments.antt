-- Lists of cells as environments.
use Rattle.std.proofs.Common.{◌≡◌, refl, sym, ap, ◌∙◌, ℕ, zero, suc, ◌-◌, ◌<◌, ⊎_elim, Bool, true, false, cond}
use Rattle.std.proofs.Common.{◌==◌, List, [], ◌∷◌, ◌++◌, length, get_or, set, eqb-true, get_or-set_same}
use Rattle.std.proofs.Common.{get_or-set_other, replicate}
use Rattle.std.proofs.Math.ListN.{get_or-append}
use Rattle.std.proofs.lemmas.List.{get_or-append_right, get_or_past}
use Rattle.std.proofs.lemmas.Bool.{cases_lt, eqb-false}
use mathlib.Core.Path.{fun_ext}
use Rattle.hh_base.specs.declared.value.Value.TheVariants as value
use Rattle.host_expr.specs.declared.cell.SigCell.{SigCell}
use Rattle.host_expr.specs.Environment.{env_of, put, unsolved}

-- past the end of the cells nothing is known, as of a cell that is added
pub one_blank : (cells : List SigCell) → env_of (cells ++ unsolved false value.Unit ∷ []) ≡ env_of cells
one_blank cells = fun_ext (λ s. at_signal s)
  where
    at_signal : (s : ℕ) → env_of (cells ++ unsolved false value.Unit ∷ []) s ≡ env_of cells s
    at_signal s = ⊎_elim
        (λ lt. get_or-append cells (unsolved false value.Unit ∷ []) (unsolved false value.Unit) s lt)
        (λ le. get_or-append_right cells (unsolved false value.Unit ∷ []) (length cells) s
        (unsolved false value.Unit) refl le ∙ alone (s - length cells) ∙ sym
        (get_or_past cells s (unsolved false value.Unit) le))
        (cases_lt s (length cells))
      where
        alone : (i : ℕ) → get_or (unsolved false value.Unit ∷ []) i (unsolved false value.Unit) ≡ unsolved
            false
            value.Unit
        alone zero = refl
        alone (suc i) = refl

pub put_is_set : (cells : List SigCell) (s : ℕ) (c : SigCell) → s < length cells → env_of (set cells s c) ≡
    put (env_of cells) s c
put_is_set cells s c h = fun_ext (λ t. at_test t (t == s) refl)
  where
    at_test : (t : ℕ) (b : Bool) → (t == s) ≡ b → env_of (set cells s c) t ≡ cond (t == s) c (env_of cells t)
    at_test t true e =
        let same = eqb-true t s e in
        ap (env_of (set cells s c)) same ∙ get_or-set_same cells s c _ h ∙ sym
        (ap (λ b. cond b c (env_of cells t)) e)
    at_test t false e = get_or-set_other cells s t c _ (eqb-false t s e) ∙ sym
        (ap (λ b. cond b c (env_of cells t)) e)

pub no_flag : (n c : ℕ) → get_or (replicate n false) c false ≡ false
no_flag zero c = refl
no_flag (suc n) zero = refl
no_flag (suc n) (suc c) = no_flag n c
