-- What stands before the first round: nothing is known.
use Rattle.std.proofs.Common.{◌≡◌, refl, sym, ap, subst, ◌∙◌, ℕ, zero, suc, ◌+◌, ◌-◌, false, List, [], ◌∷◌}
use Rattle.std.proofs.Common.{◌++◌}
use Rattle.std.proofs.Common.{Some, ⊎_elim, length, map, slice_get, get_or, replicate, arith, length-append}
use Rattle.std.proofs.lemmas.List.{map-append, get_or-append_right}
use Rattle.std.proofs.Math.ListN.{get_or-append}
use Rattle.std.proofs.lemmas.List.{get_or_past, replicate_more}
use Rattle.std.proofs.lemmas.Bool.{cases_lt}
use mathlib.Core.Path.{fun_ext}
use Rattle.hh_base.specs.declared.value.Kind.{Kind}
use Rattle.hh_base.specs.declared.value.Value.TheVariants as value
use Rattle.hh_base.specs.declared.value.Tri.TheVariants.{Unknown}
use Rattle.host_expr.specs.declared.cell.Cell.TheVariants as cell
use Rattle.host_expr.specs.declared.cell.SigCell.{SigCell}
use Rattle.host_expr.specs.Environment.{env_of, unsolved}
use Rattle.status_table.specs.declared.tally.Tally.{Tally}
use Rattle.status_table.specs.Tallies.{tally_of}
use Rattle.status_table.specs.Walking.{in_row}
use Rattle.status_rounds.specs.NothingKnown.{AllNone, nothing}

-- ---- elements of a list that grew by one

pub within : {A : Type 0} (xs : List A) (y : A) (i : ℕ) (x : A) → slice_get xs i ≡ Some x → slice_get
    (xs ++ y ∷ []) i ≡ Some x
within [] y i x e = cc
within (z ∷ xs) y zero x e = e
within (z ∷ xs) y (suc i) x e = within xs y i x e

pub at_end : {A : Type 0} (xs : List A) (y : A) → slice_get (xs ++ y ∷ []) (length xs) ≡ Some y
at_end [] y = refl
at_end (z ∷ xs) y = at_end xs y

-- ---- tallies

pub all_none_more : (n : ℕ) (ts : List Tally) (t : Tally) → AllNone n ts →
    ((k : Kind) (w : _) → t ≡ tally_of k w [] []) → AllNone (n + 1) (ts ++ t ∷ [])
all_none_more n ts t h g = record {
  len = length-append ts (t ∷ []) ∙ ap (λ k. k + 1) h.len;
  fresh = λ s lt. ⊎_elim
      (λ below. let f = h.fresh s below in record
      { tally = f.tally; here = within ts t s f.tally f.here; none = f.none })
      (λ le.
      let e : length ts ≡ s = h.len ∙ (let r : n ≡ s = omega (arith, lt, le) in r) in
      record { tally = t; here = subst (λ k. slice_get (ts ++ t ∷ []) k ≡ Some t) e (at_end ts t); none = g })
      (cases_lt s n);
}

-- ---- cells

-- past the end of the cells nothing is known, as of a cell that is added
pub one_blank : (cells : List SigCell) → env_of (cells ++ unsolved false value.Unit ∷ []) ≡ env_of cells
one_blank cells = fun_ext (λ s. at_signal s)
  where
    blank_cell : SigCell
    blank_cell = unsolved false value.Unit

    at_signal : (s : ℕ) → env_of (cells ++ unsolved false value.Unit ∷ []) s ≡ env_of cells s
    at_signal s = ⊎_elim
        (λ lt. get_or-append cells (unsolved false value.Unit ∷ []) (unsolved false value.Unit) s lt)
        (λ le. get_or-append_right cells (unsolved false value.Unit ∷ []) (length cells) s
        (unsolved false value.Unit) refl le ∙ alone (s - length cells) ∙ sym
        (get_or_past cells s (unsolved false value.Unit) le))
        (cases_lt s (length cells))
      where
        alone : (i : ℕ) → get_or (unsolved false value.Unit ∷ []) i (unsolved false value.Unit) ≡ unsolved
            false
            value.Unit
        alone zero = refl
        alone (suc i) = refl

-- ---- the table

blank_row : (n s : ℕ) → in_row (Some (replicate n nothing)) s ≡ (Unknown, cell.Unknown)
blank_row zero s = refl
blank_row (suc n) zero = refl
blank_row (suc n) (suc s) = blank_row n s

pub blank_rows : (N S n s : ℕ) → in_row (slice_get (replicate N (replicate S nothing)) n) s ≡
    (Unknown, cell.Unknown)
blank_rows zero S n s = refl
blank_rows (suc N) S zero s = blank_row S s
blank_rows (suc N) S (suc n) s = blank_rows N S n s

pub map-replicate : {A B : Type 0} (f : A → B) (n : ℕ) (x : A) → map f (replicate n x) ≡ replicate n (f x)
map-replicate f zero x = refl
map-replicate f (suc n) x = ap (λ l. f x ∷ l) (map-replicate f n x)

pub one_row : {A B : Type 0} (f : A → B) (xs : List A) (x : A) (n : ℕ) (b : B) → map f xs ≡ replicate n b → f
    x ≡
    b → map f (xs ++ x ∷ []) ≡ replicate (n + 1) b
one_row f xs x n b e g = map-append f xs (x ∷ []) ∙ ap (λ l. l ++ f x ∷ []) e ∙ ap (λ y. replicate n b ++ y ∷
    [])
    g ∙ replicate_more n b
