-- Reading lists that were written.
use Rattle.std.proofs.Common.{◌≡◌, ◌≢◌, refl, sym, ap, ◌∙◌, subst, ℕ, zero, suc, ◌<◌, ◌≤◌, ⊎_elim, Bool, true}
use Rattle.std.proofs.Common.{false, cond, ◌==◌, Option, Some, None, List, [], ◌∷◌, length, get_or, set}
use Rattle.std.proofs.Common.{slice_get, eqb-true, get_or-set_same, get_or-set_other}
use Rattle.std.proofs.lemmas.Option.{slice_get-get_or, get_or_from_slice_get, slice_get_past, slice_get_read}
use Rattle.std.proofs.lemmas.List.{set-get_or}
use Rattle.std.proofs.Math.ListN.{length-set}
use Rattle.std.proofs.lemmas.Bool.{cases_lt, eqb-false}
use mathlib.Core.Path.{fun_ext}
use Rattle.hh_base.specs.declared.value.Value.{Value}
use Rattle.hh_base.specs.declared.value.Value.TheVariants as value
use Rattle.hh_term.specs.declared.program.SignalDecl.{SignalDecl}
use Rattle.hh_term.specs.Kernel.{Kernel, first_at}
use Rattle.host_expr.specs.declared.cell.SigCell.{SigCell}
use Rattle.host_expr.specs.Environment.{env_of, put}

pub set_here : {A : Type 0} (xs : List A) (i : ℕ) (a : A) → i < length xs → slice_get (set xs i a) i ≡ Some a
set_here xs i a h =
    slice_get-get_or (set xs i a) i a (subst (λ n. i < n) (sym (length-set xs i a)) h) ∙ ap Some
    (get_or-set_same xs i a a h)

pub set_other : {A : Type 0} (xs : List A) (i j : ℕ) (a : A) → j ≢ i → slice_get (set xs i a) j ≡ slice_get xs
    j
set_other xs i j a h =
    ⊎_elim
    (λ lt.
    let inside : j < length (set xs i a) = subst (λ n. j < n) (sym (length-set xs i a)) lt in
    slice_get-get_or (set xs i a) j a inside ∙ ap Some (get_or-set_other xs i j a a h) ∙ sym
    (slice_get-get_or xs j a lt))
    (λ le. slice_get_past (set xs i a) j (subst (λ n. n ≤ j) (sym (length-set xs i a)) le) ∙ sym
    (slice_get_past xs j le))
    (cases_lt j (length xs))

pub set_twice : {A : Type 0} (xs : List A) (i : ℕ) (x y : A) → set (set xs i y) i x ≡ set xs i x
set_twice [] i x y = refl
set_twice (z ∷ xs) zero x y = refl
set_twice (z ∷ xs) (suc i) x y = ap (λ l. z ∷ l) (set_twice xs i x y)

pub set_back : {A : Type 0} (xs : List A) (i : ℕ) (x y : A) → slice_get xs i ≡ Some x → set (set xs i y) i x ≡
    xs
set_back xs i x y h = set_twice xs i x y ∙ ap (set xs i) (sym (get_or_from_slice_get xs i x x h)) ∙ set-get_or
    xs i x

pub read_here : {A : Type 0} (xs : List A) (i : ℕ) (y x : A) → i < length xs → y ≡ get_or xs i y → x ≡ y →
    slice_get xs i ≡ Some x
read_here xs i y x h e same = slice_get_read xs (length xs) i y refl h e ∙ ap Some (sym same)

pub put_is_set : (cells : List SigCell) (s : ℕ) (c : SigCell) → s < length cells → env_of (set cells s c) ≡
    put (env_of cells) s c
put_is_set cells s c h = fun_ext (λ t. at_test t (t == s) refl)
  where
    at_test : (t : ℕ) (b : Bool) → (t == s) ≡ b → env_of (set cells s c) t ≡ cond (t == s) c (env_of cells t)
    at_test t true e =
        let same = eqb-true t s e in
        ap (env_of (set cells s c)) same ∙ get_or-set_same cells s c _ h ∙ sym
        (ap (λ b. cond b c (env_of cells t)) e)
    at_test t false e = get_or-set_other cells s t c _ (eqb-false t s e) ∙ sym
        (ap (λ b. cond b c (env_of cells t)) e)

-- the first value that a declaration has
pub first_is : (signals : List SignalDecl) (K : Kernel) (s : ℕ) (d : SignalDecl) → signals ≡ K.signals → s <
    length K.signals → d ≡ get_or signals s d → first_at K s ≡ d.first
first_is signals K s d e h g =
    ap first_in (slice_get_read K.signals (length K.signals) s d refl h (g ∙ ap (λ l. get_or l s d) e))
  where
    first_in : Option SignalDecl → Value
    first_in o = (elim o [ Some d ↦ d.first | None ↦ value.Unit ])
