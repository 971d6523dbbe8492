-- What an order of finishing says of cycles: a module that is the first in it of all that another module
-- reaches, reaches that module.
use Rattle.std.proofs.Common.{◌≡◌, ℕ, ◌⊎◌, true, false, List, [], ◌∷◌, refl, sym, ◌∙◌, subst, inl, inr}
use Rattle.std.proofs.lemmas.Bool.{both_ways}
use Rattle.module_tree.specs.Runs.{is_among}
use Rattle.run_graph.specs.Reach.{Runs, Reaches, itself, by_run}
use Rattle.run_graph.specs.Search.{IsFinishOrder}
use Rattle.run_graph.specs.Components.{IsFirstReached}
use Rattle.run_graph.proofs.Members.{among_cases, not_among_tail}

pub reaches_on : (runs : List (List ℕ)) (a b c : ℕ) → Reaches runs a b → Reaches runs b c → Reaches runs a c
reaches_on runs a b c (itself m) q = q
reaches_on runs a b c (by_run m n k r p) q = by_run m n c r (reaches_on runs n k c p q)

-- r reaches each module of the list up to a place where x stands
abbrev ReachesUpTo : List (List ℕ) → ℕ → ℕ → List ℕ → Type 0
ReachesUpTo runs r x [] = ⊥
ReachesUpTo runs r x (w ∷ ws) = Reaches runs r w × ((w ≡ x) ⊎ ReachesUpTo runs r x ws)

reached : (runs : List (List ℕ)) (r x : ℕ) (ws : List ℕ) → ReachesUpTo runs r x ws → Reaches runs r x
reached runs r x [] h = absurd h
reached runs r x (w ∷ ws) (p, inl e) = subst (λ (n : ℕ). Reaches runs r n) e p
reached runs r x (w ∷ ws) (p, inr h) = reached runs r x ws h

-- x runs y, which r reaches, and y is not finished before those of the list
up_to_caller : (runs : List (List ℕ)) (r x y : ℕ) (ws : List ℕ) → IsFinishOrder runs ws → Runs runs x y
    → Reaches runs r y
    → is_among ws y ≡ false → is_among ws x ≡ true → ReachesUpTo runs r x ws
up_to_caller runs r x y [] o e p n a = absurd (both_ways false refl a)
up_to_caller runs r x y (z ∷ zs) (apart, to, o) e p n a =
    let reaches_z : Reaches runs r z = elim (to x y a e) [
      | inl among ↦ absurd (both_ways (is_among zs y) (not_among_tail z zs y n) among)
      | inr q ↦ reaches_on runs r y z p q
    ] in
    elim (among_cases z zs x a) [
      | inl here ↦ (reaches_z, inl here)
      | inr later ↦ (reaches_z, inr (up_to_caller runs r x y zs o e p (not_among_tail z zs y n) later))
    ]

caller_up_to : (runs : List (List ℕ)) (r x y : ℕ) (ws : List ℕ) → IsFinishOrder runs ws → Runs runs x y
    → ReachesUpTo runs r y ws → is_among ws x ≡ true → ReachesUpTo runs r x ws
caller_up_to runs r x y [] o e u a = absurd u
caller_up_to runs r x y (w ∷ ws) (apart, to, o) e (p, more) a =
    elim (among_cases w ws x a) [
      | inl here ↦ (p, inl here)
      | inr later ↦ elim more [
        | inl is ↦ (
          p,
          inr (up_to_caller runs r x y ws o e (subst (λ (n : ℕ). Reaches runs r n) is p)
              (subst (λ (n : ℕ). is_among ws n ≡ false) is apart) later),
        )
        | inr u ↦ (p, inr (caller_up_to runs r x y ws o e u later))
      ]
    ]

up_to_all : (runs : List (List ℕ)) (w : ℕ) (ws : List ℕ) (x r : ℕ) → IsFinishOrder runs (w ∷ ws)
    → Reaches runs x r → r ≡ w
    → ((z : ℕ) → Reaches runs x z → is_among (w ∷ ws) z ≡ true) → ReachesUpTo runs r x (w ∷ ws)
up_to_all runs w ws x r o (itself m) is all = (
  subst (λ (n : ℕ). Reaches runs m n) is (itself m),
  inl (sym is),
)
up_to_all runs w ws x r o (by_run m n k e p) is all =
    caller_up_to runs k m n (w ∷ ws) o e (up_to_all runs w ws n k o p is (λ z q. all z (by_run m n z e q)))
    (all m (itself m))

-- where an order has all that v reaches, the first in it that v reaches, reaches v
pub first_reaches_back : (runs : List (List ℕ)) (ws : List ℕ) (v r : ℕ) → IsFinishOrder runs ws
    → ((z : ℕ) → Reaches runs v z → is_among ws z ≡ true) → IsFirstReached runs v r ws → Reaches runs r v
first_reaches_back runs [] v r o all h = absurd h
first_reaches_back runs (w ∷ ws) v r o all (inl (is, p)) =
    reached runs r v (w ∷ ws) (up_to_all runs w ws v r o (subst (λ (n : ℕ). Reaches runs v n) (sym is) p)
    is all)
first_reaches_back runs (w ∷ ws) v r (apart, to, o) all (inr (not, h)) =
    first_reaches_back runs ws v r o
    (λ z q. elim (among_cases w ws z (all z q)) [
      | inl is ↦
          absurd (not (subst (λ (n : ℕ). Reaches runs v n) (sym is) q))
      | inr later ↦ later
    ]) h

pub first_is_reached : (runs : List (List ℕ)) (ws : List ℕ) (v r : ℕ) → IsFirstReached runs v r ws
    → Reaches runs v r
first_is_reached runs [] v r h = absurd h
first_is_reached runs (w ∷ ws) v r (inl (is, p)) = subst (λ (n : ℕ). Reaches runs v n) (sym is) p
first_is_reached runs (w ∷ ws) v r (inr (not, h)) = first_is_reached runs ws v r h

-- two modules that reach each other have one first module that they reach
pub same_first : (runs : List (List ℕ)) (ws : List ℕ) (u v r s : ℕ) → Reaches runs u v → Reaches runs v u
    → IsFirstReached runs u r ws → IsFirstReached runs v s ws → r ≡ s
same_first runs [] u v r s p q h k = absurd h
same_first runs (w ∷ ws) u v r s p q (inl (is, a)) (inl (also, b)) = is ∙ sym also
same_first runs (w ∷ ws) u v r s p q (inl (is, a)) (inr (not, k)) = absurd (not (reaches_on runs v u w q a))
same_first runs (w ∷ ws) u v r s p q (inr (not, h)) (inl (also, b)) = absurd (not (reaches_on runs u v w p b))
same_first runs (w ∷ ws) u v r s p q (inr (not, h)) (inr (nor, k)) = same_first runs ws u v r s p q h k
