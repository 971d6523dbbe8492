-- Membership in a list of modules.
use Rattle.std.proofs.Common.{◌≡◌, ℕ, ◌==◌, ◌⊎◌, true, false, List, ◌∷◌, refl, sym, inl, inr}
use Rattle.std.proofs.lemmas.Bool.{or_cases, or_left, or_right, or_parts, or_from, eqb-true, eq-eqb, ne_eqb}
use Rattle.module_tree.specs.Runs.{is_among}

pub among_cases : (w : ℕ) (ws : List ℕ) (m : ℕ) → is_among (w ∷ ws) m ≡ true
    → (w ≡ m) ⊎ (is_among ws m ≡ true)
among_cases w ws m e = elim (or_cases (w == m) (is_among ws m) e) [
  | inl h ↦ inl (eqb-true w m h)
  | inr h ↦
      inr h
]

pub among_head : (w : ℕ) (ws : List ℕ) → is_among (w ∷ ws) w ≡ true
among_head w ws = or_left (w == w) (is_among ws w) (eq-eqb w w refl)

pub among_tail : (w : ℕ) (ws : List ℕ) (m : ℕ) → is_among ws m ≡ true → is_among (w ∷ ws) m ≡ true
among_tail w ws m e = or_right (w == m) (is_among ws m) e

pub not_eq : (a b : ℕ) → (a ≡ b → ⊥) → (b == a) ≡ false
not_eq a b n = ne_eqb b a (λ e. n (sym e))

pub not_among_tail : (w : ℕ) (ws : List ℕ) (m : ℕ) → is_among (w ∷ ws) m ≡ false → is_among ws m ≡ false
not_among_tail w ws m e = (or_parts (w == m) (is_among ws m) e).1

pub not_among_cons : (w : ℕ) (ws : List ℕ) (m : ℕ) → (w ≡ m → ⊥) → is_among ws m ≡ false
    → is_among (w ∷ ws) m ≡ false
not_among_cons w ws m n e = or_from (w == m) (is_among ws m) (ne_eqb w m n) e
