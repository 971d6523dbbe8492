-- Where more is known of emissions, the value that they made stays.
use Rattle.std.proofs.Common.{◌≡◌, refl, sym, ap, subst, ◌∙◌, Bool, true, false, cond, Option}
use Rattle.std.proofs.Common.{List, [], ◌∷◌, ◌++◌}
use Rattle.std.specs.List.{list_all, flat_map}
use Rattle.hh_base.specs.declared.value.Kind.{Kind}
use Rattle.hh_base.specs.declared.value.CombineWord.{CombineWord}
use Rattle.hh_base.specs.declared.value.Tri.{Tri}
use Rattle.hh_base.specs.declared.value.Tri.TheVariants.{Unknown, Zero, One}
use Rattle.host_expr.specs.declared.cell.Cell.{Cell}
use Rattle.host_expr.specs.declared.cell.Cell.TheVariants as cell
use Rattle.host_expr.specs.Environment.{is_known}
use Rattle.host_expr.specs.Knows.{TriBelow, CellBelow}
use Rattle.net_solution.specs.Equations.{Emission, is_settled, made, value_made}
use Rattle.net_solution.specs.Equations.{value_by_emissions}
use Rattle.net_solution.proofs.Truths.{cell_is, known_same, and_left, and_right, and_both}

pub record EmissionBelow (e f : Emission) : Type 0 where
  pub control : TriBelow e.0 f.0
  pub carried : CellBelow e.1 f.1

abbrev pub EachBelow : List Emission → List Emission → Type 0
EachBelow [] [] = Unit {0}
EachBelow (e ∷ es) (f ∷ fs) = EmissionBelow e f × EachBelow es fs
EachBelow [] (f ∷ fs) = ⊥
EachBelow (e ∷ es) [] = ⊥

pub each_append : (es fs gs hs : List Emission) → EachBelow es fs → EachBelow gs hs → EachBelow (es ++ gs)
    (fs ++ hs)
each_append [] [] gs hs h k = k
each_append (e ∷ es) (f ∷ fs) gs hs h k = (h.0, each_append es fs gs hs h.1 k)
each_append [] (f ∷ fs) gs hs h k = absurd h
each_append (e ∷ es) [] gs hs h k = absurd h

pub each_same : (es : List Emission) → EachBelow es es
each_same [] = tt
each_same ((t, c) ∷ es) = (record { control = same_tri t; carried = cell_is c c refl }, each_same es)
  where
    same_tri : (t : Tri) → TriBelow t t
    same_tri Unknown = tt
    same_tri Zero = refl
    same_tri One = refl

pub each_flat : {X : Type 0} (f g : X → List Emission) → ((x : X) → EachBelow (f x) (g x)) → (xs : List X)
    → EachBelow (flat_map f xs) (flat_map g xs)
each_flat f g h [] = tt
each_flat f g h (x ∷ xs) = each_append (f x) (g x) (flat_map f xs) (flat_map g xs) (h x) (each_flat f g h xs)

pub one_where : (b : Bool) (e f : Emission) → EmissionBelow e f → EachBelow (cond b (e ∷ []) [])
    (cond b (f ∷ []) [])
one_where true e f h = (h, tt)
one_where false e f h = tt

-- emissions that are settled stay as they are
settled_up : (es fs : List Emission) → EachBelow es fs → list_all is_settled es ≡ true
    → (list_all is_settled fs ≡ true) × (made es ≡ made fs)
settled_up [] [] h k = (refl, refl)
settled_up [] (f ∷ fs) h k = absurd h
settled_up (e ∷ es) [] h k = absurd h
settled_up ((Unknown, c) ∷ es) (f ∷ fs) h k = cc
settled_up ((Zero, c) ∷ es) ((Zero, d) ∷ fs) h k = settled_up es fs h.1 k
settled_up ((Zero, c) ∷ es) ((One, d) ∷ fs) h k = let e : One ≡ Zero = h.0.control in cc
settled_up ((Zero, c) ∷ es) ((Unknown, d) ∷ fs) h k = let e : Unknown ≡ Zero = h.0.control in cc
settled_up ((One, c) ∷ es) ((Zero, d) ∷ fs) h k = let e : Zero ≡ One = h.0.control in cc
settled_up ((One, c) ∷ es) ((Unknown, d) ∷ fs) h k = let e : Unknown ≡ One = h.0.control in cc
settled_up ((One, c) ∷ es) ((One, d) ∷ fs) h k =
    let known = and_left (is_known c) (list_all is_settled es) k in
    let same : d ≡ c = known_same c d h.0.carried known in
    let rest = settled_up es fs h.1 (and_right (is_known c) (list_all is_settled es) k) in (
      and_both (is_known d) (list_all is_settled fs) (ap is_known same ∙ known) rest.0,
      λ i. sym same i ∷ rest.1 i,
    )

made_up : (k : Kind) (w : Option CombineWord) (b c : Cell) → CellBelow b c → (cs : List Cell)
    → CellBelow (value_made k w b cs) (value_made k w c cs)
made_up k w b c h [] = h
made_up k w b c h (d ∷ ds) = refl

pub value_up : (k : Kind) (w : Option CombineWord) (b c : Cell) (es fs : List Emission) → CellBelow b c
    → EachBelow es fs → CellBelow (value_by_emissions k w b es) (value_by_emissions k w c fs)
value_up k w b c es fs h each = by_settled (list_all is_settled es) (settled_up es fs each)
  where
    by_settled : (a : Bool) → (a ≡ true → (list_all is_settled fs ≡ true) × (made es ≡ made fs))
        → CellBelow (cond a (value_made k w b (made es)) cell.Unknown) (value_by_emissions k w c fs)
    by_settled false f = tt
    by_settled true f =
        let e = f refl in
        subst (λ x. CellBelow (value_made k w b (made es)) x)
        ((λ i. value_made k w c (e.1 i)) ∙ λ i. cond (sym e.0 i) (value_made k w c (made fs)) cell.Unknown)
        (made_up k w b c h (made es))
