-- Terms that a loop gathers: what pieces make one after the other.
use Rattle.std.proofs.Common.{◌≡◌, ℕ, ◌+◌, ◌<◌, List, [], ◌∷◌, ◌++◌, length, map, take, get_or, sym, ap, ◌∙◌}
use Rattle.std.proofs.lemmas.List.{map_push, map_more}
use Rattle.hh_base.specs.declared.value.Pos.{Pos}
use Rattle.hh_term.specs.declared.term.Term.{Term}
use Rattle.hh_term.specs.Placed.{Placed, placed_term}
use Rattle.kernel_expand.specs.declared.forms.Join.TheVariants as join
use Rattle.kernel_expand.specs.Forms as form
use Rattle.kernel_expand.specs.Rows as row
use Rattle.kernel_expand.specs.Numbering.{Around, Numbered, Piece, numbering}
use Rattle.statement_build.proofs.Walking.{walked, walked_more, listed_is, forked_is}

pushed : (ps : List Piece) (p : Piece) (a : Around) (n m o : Numbered) (ts us : List Term) (t : Term)
    → (map placed_term ts, m) ≡ walked ps a n → (placed_term t, o) ≡ p a m → us ≡ ts ++ t ∷ []
    → (map placed_term us, o) ≡ walked (ps ++ p ∷ []) a n
pushed ps p a n m o ts us t before new e =
    (λ i. ((ap (map placed_term) e ∙ map_push placed_term ts t) i, o))
    ∙ ap (λ (z : Placed × Numbered). (map placed_term ts ++ z.0 ∷ [], z.1)) new
    ∙ ap (λ (z : List Placed × Numbered). (z.0 ++ (p a z.1).0 ∷ [], (p a z.1).1)) before
    ∙ sym (walked_more ps p a n)

pub one_more : {A : Type 0} (f : A → Piece) (xs : List A) (i : ℕ) (x : A) (a : Around) (n m o : Numbered)
    (ts us : List Term) (t : Term) → i < length xs → x ≡ get_or xs i x
    → (map placed_term ts, m) ≡ walked (map f (take i xs)) a n → (placed_term t, o) ≡ f x a m
    → us ≡ ts ++ t ∷ [] → (map placed_term us, o) ≡ walked (map f (take (i + 1) xs)) a n
one_more f xs i x a n m o ts us t lt at before new e =
    pushed (map f (take i xs)) (f x) a n m o ts us t before new e
    ∙ ap (λ ps. walked ps a n) (ap (λ y. map f (take i xs) ++ f y ∷ []) at ∙ sym (map_more f xs i x lt))

module _ (f : ℕ → Piece) (pos : Pos) (ps : List Piece) (a : Around) (n m : Numbered) (ts : List Term)
    (t : Term) where
  pub in_sequence : placed_term t ≡ form.joined join.Sequence pos (map placed_term ts)
      → (map placed_term ts, m) ≡ walked ps a n → (placed_term t, m) ≡ row.listed (numbering f pos) ps a n
  in_sequence e is = (λ i. (e i, m))
      ∙ ap (λ (z : List Placed × Numbered). (form.joined join.Sequence pos z.0, z.1)) is
      ∙ sym (listed_is f pos ps a n)

  pub in_parallel : placed_term t ≡ form.joined join.Parallel pos (map placed_term ts)
      → (map placed_term ts, m) ≡ walked ps a n → (placed_term t, m) ≡ row.forked (numbering f pos) ps a n
  in_parallel e is = (λ i. (e i, m))
      ∙ ap (λ (z : List Placed × Numbered). (form.joined join.Parallel pos z.0, z.1)) is
      ∙ sym (forked_is f pos ps a n)
