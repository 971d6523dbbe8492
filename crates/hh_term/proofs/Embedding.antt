-- Embeddings of bags.
use Rattle.std.proofs.Common.{◌≤◌, refl, sym, ap, subst, ℕ, Bool, true, false, cond, eqb, List, [], ◌∷◌}
use Rattle.std.proofs.Common.{◌++◌, length, arith}
use Rattle.host_expr.specs.declared.cell.Cell.{Cell}
use Rattle.host_expr.proofs.Information.{cell_refl}
use Rattle.hh_term.specs.MustCan.{Bag, cells_of, without}
use Rattle.host_expr.specs.Knows.{CellBelow}
use Rattle.hh_term.specs.Knows.{Embeds, ended, keep, skip, OnSignal, CellAbove, SameCell}

pub nothing_sub : {A : Type 0} {R : A → A → Type 0} (ys : List A) → Embeds R [] ys
nothing_sub [] = ended
nothing_sub (y ∷ ys) = skip (nothing_sub ys)

pub sub_append : {A : Type 0} {R : A → A → Type 0} {xs ys us vs : List A} → Embeds R xs ys
    → Embeds R us vs → Embeds R (xs ++ us) (ys ++ vs)
sub_append ended h = h
sub_append (keep r g) h = keep r (sub_append g h)
sub_append (skip g) h = skip (sub_append g h)

pub sub_left : {A : Type 0} {R : A → A → Type 0} {xs ys : List A} (vs : List A) → Embeds R xs ys
    → Embeds R xs (ys ++ vs)
sub_left vs ended = nothing_sub vs
sub_left vs (keep r g) = keep r (sub_left vs g)
sub_left vs (skip g) = skip (sub_left vs g)

pub sub_right : {A : Type 0} {R : A → A → Type 0} {us vs : List A} (ys : List A) → Embeds R us vs
    → Embeds R us (ys ++ vs)
sub_right [] h = h
sub_right (y ∷ ys) h = skip (sub_right ys h)

pub sub_length : {A : Type 0} {R : A → A → Type 0} {xs ys : List A} → Embeds R xs ys → length xs ≤ length ys
sub_length ended = omega arith
sub_length (keep r g) = omega (arith, sub_length g)
sub_length (skip g) = omega (arith, sub_length g)

-- ---- a signal's cells, and a bag without them

keep_if : {A : Type 0} {R : A → A → Type 0} {xs ys : List A} (c d : A) (b : Bool) → R c d → Embeds R xs ys
    → Embeds R (cond b (c ∷ xs) xs) (cond b (d ∷ ys) ys)
keep_if c d true r g = keep r g
keep_if c d false r g = g

skip_if : {A : Type 0} {R : A → A → Type 0} {xs ys : List A} (d : A) (b : Bool) → Embeds R xs ys
    → Embeds R xs (cond b (d ∷ ys) ys)
skip_if d true g = skip g
skip_if d false g = g

pub cells_sub : (R : Cell → Cell → Type 0) {xs ys : Bag} (s : ℕ) → Embeds (OnSignal R) xs ys
    → Embeds R (cells_of s xs) (cells_of s ys)
cells_sub R s ended = ended
cells_sub R s (keep {x = x} {y = y} {xs = xs} {ys = ys} r g) =
    subst (λ b. Embeds R (cond b (x.1 ∷ cells_of s xs) (cells_of s xs)) (cells_of s (y ∷ ys)))
    (ap (λ t. eqb t s) (sym r.0)) (keep_if x.1 y.1 (eqb y.0 s) r.1 (cells_sub R s g))
cells_sub R s (skip {y = y} g) = skip_if y.1 (eqb y.0 s) (cells_sub R s g)

keep_unless : {A : Type 0} {R : A → A → Type 0} {xs ys : List A} (c d : A) (b : Bool) → R c d
    → Embeds R xs ys → Embeds R (cond b xs (c ∷ xs)) (cond b ys (d ∷ ys))
keep_unless c d true r g = g
keep_unless c d false r g = keep r g

skip_unless : {A : Type 0} {R : A → A → Type 0} {xs ys : List A} (d : A) (b : Bool) → Embeds R xs ys
    → Embeds R xs (cond b ys (d ∷ ys))
skip_unless d true g = g
skip_unless d false g = skip g

pub without_sub : (R : Cell → Cell → Type 0) {xs ys : Bag} (s : ℕ) → Embeds (OnSignal R) xs ys
    → Embeds (OnSignal R) (without s xs) (without s ys)
without_sub R s ended = ended
without_sub R s (keep {x = x} {y = y} {xs = xs} {ys = ys} r g) =
    subst (λ b. Embeds (OnSignal R) (cond b (without s xs) (x ∷ without s xs)) (without s (y ∷ ys)))
    (ap (λ t. eqb t s) (sym r.0)) (keep_unless x y (eqb y.0 s) r (without_sub R s g))
without_sub R s (skip {y = y} g) = skip_unless y (eqb y.0 s) (without_sub R s g)

-- ---- a bag and itself

pub same_sub : (b : Bag) → Embeds (OnSignal SameCell) b b
same_sub [] = ended
same_sub (e ∷ b) = keep (refl, refl) (same_sub b)

pub same_bag_up : (b : Bag) → Embeds (OnSignal CellBelow) b b
same_bag_up [] = ended
same_bag_up (e ∷ b) = keep (refl, cell_refl e.1) (same_bag_up b)

pub same_bag_down : (b : Bag) → Embeds (OnSignal CellAbove) b b
same_bag_down [] = ended
same_bag_down (e ∷ b) = keep (refl, cell_refl e.1) (same_bag_down b)
