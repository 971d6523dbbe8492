-- Codes that are merged one by one.
use Rattle.std.proofs.Common.{◌≡◌, ℕ, zero, suc, ◌<◌, ◌≤◌, max, List, [], ◌∷◌, ◌++◌, length, drop, refl, sym, ap, ◌∙◌, arith}
use Rattle.std.proofs.Common.{subst, Option}
use Rattle.std.proofs.lemmas.List.{append-nil, append_assoc}
use Rattle.net_list.specs.declared.gate.NetGate.{NetGate}
use Rattle.net_block.specs.Parts.{up, From, only_gates}
use Rattle.net_block.specs.Codes.{CodeGates, Made, Joined, code_gate, side_by_side, either, merged}
use Rattle.net_block.specs.Codes.{joined, let_through, joined_code, synchronized}
use Rattle.net_block.specs.Drawn.{Drawn, next_of, with_parts, Makes, JoinsCode}
use Rattle.net_block.specs.declared.codes.JoinedCode.{JoinedCode}
use Rattle.net_block.proofs.Growing.{with_both, with_none, next_with}

-- the gates of both for the code at this place
pub codes_at : (xs ys : CodeGates) (i : ℕ) → i < max (length xs) (length ys)
    → drop i (side_by_side xs ys) ≡ (code_gate xs i, code_gate ys i) ∷ drop (suc i) (side_by_side xs ys)
codes_at [] [] i h = absurd (let no : ⊥ = omega (arith, h) in no)
codes_at [] (y ∷ ys) zero h = refl
codes_at [] (y ∷ ys) (suc i) h = codes_at [] ys i (omega (arith, h))
codes_at (x ∷ xs) [] zero h = refl
codes_at (x ∷ xs) [] (suc i) h = codes_at xs [] i (omega (arith, h))
codes_at (x ∷ xs) (y ∷ ys) zero h = refl
codes_at (x ∷ xs) (y ∷ ys) (suc i) h = codes_at xs ys i (omega (arith, h))

pub codes_end : (xs ys : CodeGates) (i : ℕ) → max (length xs) (length ys) ≤ i → drop i (side_by_side xs ys) ≡ []
codes_end [] [] zero h = refl
codes_end [] [] (suc i) h = refl
codes_end [] (y ∷ ys) zero h = absurd (let no : ⊥ = omega (arith, h) in no)
codes_end [] (y ∷ ys) (suc i) h = codes_end [] ys i (omega (arith, h))
codes_end (x ∷ xs) [] zero h = absurd (let no : ⊥ = omega (arith, h) in no)
codes_end (x ∷ xs) [] (suc i) h = codes_end xs [] i (omega (arith, h))
codes_end (x ∷ xs) (y ∷ ys) zero h = absurd (let no : ⊥ = omega (arith, h) in no)
codes_end (x ∷ xs) (y ∷ ys) (suc i) h = codes_end xs ys i (omega (arith, h))

-- some codes are there with their gates, and what makes the others makes what is left of the whole
pub record Merging (D : Drawn) (whole : Made CodeGates) (E : Drawn) (codes : CodeGates) (rest : Made CodeGates) : Type 0 where
  pub gates : List NetGate
  pub drawn : E ≡ with_parts D (only_gates gates)
  pub codes_of : whole.0 ≡ codes ++ rest.0
  pub gates_of : whole.1 ≡ gates ++ rest.1

pub merging_starts : (D : Drawn) (whole : Made CodeGates) (codes : CodeGates) → codes ≡ [] → Merging D whole D codes whole
merging_starts D whole codes e =
    record { gates = []; drawn = sym (with_none D); codes_of = ap (λ z. z ++ whole.0) (sym e); gates_of = refl }

pub merging_goes_on : (D E F : Drawn) (whole rest : Made CodeGates) (codes more : CodeGates) (c d : Option ℕ)
    (gs : List NetGate) → more ≡ codes ++ c ∷ [] → Merging D whole E codes (d ∷ rest.0, gs ++ rest.1) → c ≡ d
    → F ≡ with_parts E (only_gates gs) → Merging D whole F more rest
merging_goes_on D E F whole rest codes more c d gs p m e f =
    record {
      gates = m.gates ++ gs;
      drawn = f ∙ ap (λ z. with_parts z (only_gates gs)) m.drawn ∙ with_both D (only_gates m.gates) (only_gates gs);
      codes_of = m.codes_of ∙ ap (λ z. codes ++ z ∷ rest.0) (sym e) ∙ sym (append_assoc codes (c ∷ []) rest.0)
          ∙ ap (λ z. z ++ rest.0) (sym p);
      gates_of = m.gates_of ∙ sym (append_assoc m.gates gs rest.1);
    }

pub merging_ends : (D E : Drawn) (whole : Made CodeGates) (codes : CodeGates) → Merging D whole E codes ([], []) → Makes whole D E codes
merging_ends D E whole codes m =
    record {
      is = sym (append-nil codes) ∙ sym m.codes_of;
      drawn = m.drawn ∙ ap (λ gs. with_parts D (only_gates gs)) (sym (append-nil m.gates) ∙ sym m.gates_of);
    }

-- the number behind gates that were drawn
pub gate_behind : (D E : Drawn) (gs : List NetGate) → E ≡ with_parts D (only_gates gs)
    → (next_of E).gate ≡ up (length gs) (next_of D).gate
gate_behind D E gs e = ap (λ z. (next_of z).gate) e ∙ ap (λ (n : From). n.gate) (next_with D (only_gates gs))

-- ---- codes of two parts

pub merged_goes_on : (D E F : Drawn) (xs ys codes more : CodeGates) (x y c : Option ℕ) (i j : ℕ) (whole : Made CodeGates)
    → x ≡ code_gate xs i → y ≡ code_gate ys i → i < max (length xs) (length ys) → j ≡ suc i → more ≡ codes ++ c ∷ []
    → Merging D whole E codes (merged (next_of E).gate (drop i (side_by_side xs ys)))
    → Makes (either (next_of E).gate x y) E F c
    → Merging D whole F more (merged (next_of F).gate (drop j (side_by_side xs ys)))
merged_goes_on D E F xs ys codes more x y c i j whole ex ey h k p m b =
    let a : Makes (either (next_of E).gate (code_gate xs i) (code_gate ys i)) E F c
    = subst (λ (z : Made (Option ℕ)). Makes z E F c) (λ l. either (next_of E).gate (ex l) (ey l)) b in
    let one = either (next_of E).gate (code_gate xs i) (code_gate ys i) in
    let rest : ℕ → Made CodeGates = (λ n. merged n (drop (suc i) (side_by_side xs ys))) in
    let behind_one = gate_behind E F one.1 a.drawn in
    subst (λ l. Merging D whole F more (merged (next_of F).gate (drop l (side_by_side xs ys)))) (sym k)
    (merging_goes_on D E F whole (rest (next_of F).gate) codes more c one.0 one.1 p
    (subst (Merging D whole E codes)
    (ap (merged (next_of E).gate) (codes_at xs ys i h)
    ∙ sym (λ l. (one.0 ∷ (rest (behind_one l)).0, one.1 ++ (rest (behind_one l)).1))) m)
    a.is a.drawn)

pub merged_ends : (D E : Drawn) (xs ys codes : CodeGates) (i : ℕ) (whole : Made CodeGates) → max (length xs) (length ys) ≤ i
    → Merging D whole E codes (merged (next_of E).gate (drop i (side_by_side xs ys))) → Makes whole D E codes
merged_ends D E xs ys codes i whole h m =
    merging_ends D E whole codes (subst (Merging D whole E codes) (ap (merged (next_of E).gate) (codes_end xs ys i h)) m)

-- ---- codes of a parallel

pub synchronized_goes_on : (D E F : Drawn) (xs ys codes more : CodeGates) (wires c : JoinedCode) (x y : Option ℕ) (i j : ℕ)
    (whole : Made CodeGates) → x ≡ code_gate xs i → y ≡ code_gate ys i → i < max (length xs) (length ys) → j ≡ suc i → more ≡ codes ++ c.code ∷ []
    → Merging D whole E codes (synchronized (next_of E).gate wires.left wires.right (drop i (side_by_side xs ys)))
    → JoinsCode (joined_code (next_of E).gate wires.left wires.right (x, y)) E F c
    → Merging D whole F more (synchronized (next_of F).gate c.left c.right (drop j (side_by_side xs ys)))
synchronized_goes_on D E F xs ys codes more wires c x y i j whole ex ey h k p m b =
    let a : JoinsCode (joined_code (next_of E).gate wires.left wires.right (code_gate xs i, code_gate ys i)) E F c
    = subst (λ (z : Joined). JoinsCode z E F c) (λ l. joined_code (next_of E).gate wires.left wires.right (ex l, ey l)) b in
    let one = joined_code (next_of E).gate wires.left wires.right (code_gate xs i, code_gate ys i) in
    let rest : ℕ → ℕ → ℕ → Made CodeGates = (λ n l r. synchronized n l r (drop (suc i) (side_by_side xs ys))) in
    let behind_one = gate_behind E F one.gates a.drawn in
    subst (λ l. Merging D whole F more (synchronized (next_of F).gate c.left c.right (drop l (side_by_side xs ys)))) (sym k)
    (merging_goes_on D E F whole (rest (next_of F).gate c.left c.right) codes more c.code one.code one.gates p
    (subst (Merging D whole E codes)
    (ap (synchronized (next_of E).gate wires.left wires.right) (codes_at xs ys i h)
    ∙ sym (λ l. (
      one.code ∷ (rest (behind_one l) (a.left l) (a.right l)).0,
      one.gates ++ (rest (behind_one l) (a.left l) (a.right l)).1,
    ))) m)
    a.code a.drawn)

pub synchronized_ends : (D E : Drawn) (xs ys codes : CodeGates) (wires : JoinedCode) (i : ℕ) (whole : Made CodeGates)
    → max (length xs) (length ys) ≤ i
    → Merging D whole E codes (synchronized (next_of E).gate wires.left wires.right (drop i (side_by_side xs ys)))
    → Makes whole D E codes
synchronized_ends D E xs ys codes wires i whole h m =
    merging_ends D E whole codes
    (subst (Merging D whole E codes) (ap (synchronized (next_of E).gate wires.left wires.right) (codes_end xs ys i h)) m)

-- ---- the gates of one code

module _ (D E F G H I : Drawn) (wires : JoinedCode) (x y a b c : Option ℕ) (l r : ℕ) where
  pub joins_code : Makes (joined (next_of D).gate wires.left x) D E l → Makes (joined (next_of E).gate wires.right y) E F r
      → Makes (let_through (next_of F).gate x r) F G a → Makes (let_through (next_of G).gate y l) G H b
      → Makes (either (next_of H).gate a b) H I c
      → JoinsCode (joined_code (next_of D).gate wires.left wires.right (x, y)) D I (record { left = l; right = r; code = c })
  joins_code u v p q o =
      let n = (next_of D).gate in
      let l' = joined n wires.left x in
      let n1 = up (length l'.1) n in
      let e1 = gate_behind D E l'.1 u.drawn in
      let r' = joined n1 wires.right y in
      let v1 = ap (λ z. joined z wires.right y) e1 in
      let fr : r ≡ r'.0 = v.is ∙ ap (λ (z : Made ℕ). z.0) v1 in
      let dr : F ≡ with_parts E (only_gates r'.1) = v.drawn ∙ ap (λ (z : Made ℕ). with_parts E (only_gates z.1)) v1 in
      let n2 = up (length r'.1) n1 in
      let e2 = gate_behind E F r'.1 dr ∙ ap (up (length r'.1)) e1 in
      let a' = let_through n2 x r'.0 in
      let p1 : let_through (next_of F).gate x r ≡ a' = (λ i. let_through (e2 i) x (fr i)) in
      let fa : a ≡ a'.0 = p.is ∙ ap (λ (z : Made (Option ℕ)). z.0) p1 in
      let da : G ≡ with_parts F (only_gates a'.1) = p.drawn ∙ ap (λ (z : Made (Option ℕ)). with_parts F (only_gates z.1)) p1 in
      let n3 = up (length a'.1) n2 in
      let e3 = gate_behind F G a'.1 da ∙ ap (up (length a'.1)) e2 in
      let b' = let_through n3 y l'.0 in
      let q1 : let_through (next_of G).gate y l ≡ b' = (λ i. let_through (e3 i) y (u.is i)) in
      let fb : b ≡ b'.0 = q.is ∙ ap (λ (z : Made (Option ℕ)). z.0) q1 in
      let db : H ≡ with_parts G (only_gates b'.1) = q.drawn ∙ ap (λ (z : Made (Option ℕ)). with_parts G (only_gates z.1)) q1 in
      let e4 = gate_behind G H b'.1 db ∙ ap (up (length b'.1)) e3 in
      let c' = either (up (length b'.1) n3) a'.0 b'.0 in
      let o1 : either (next_of H).gate a b ≡ c' = (λ i. either (e4 i) (fa i) (fb i)) in
      let di : I ≡ with_parts H (only_gates c'.1)
      = o.drawn ∙ ap (λ (z : Made (Option ℕ)). with_parts H (only_gates z.1)) o1 in
      record {
        left = u.is;
        right = fr;
        code = o.is ∙ ap (λ (z : Made (Option ℕ)). z.0) o1;
        drawn = di ∙ ap (λ z. with_parts z (only_gates c'.1)) db ∙ with_both G (only_gates b'.1) (only_gates c'.1)
            ∙ ap (λ z. with_parts z (only_gates (b'.1 ++ c'.1))) da ∙ with_both F (only_gates a'.1) (only_gates (b'.1 ++ c'.1))
            ∙ ap (λ z. with_parts z (only_gates (a'.1 ++ (b'.1 ++ c'.1)))) dr
            ∙ with_both E (only_gates r'.1) (only_gates (a'.1 ++ (b'.1 ++ c'.1)))
            ∙ ap (λ z. with_parts z (only_gates (r'.1 ++ (a'.1 ++ (b'.1 ++ c'.1))))) u.drawn
            ∙ with_both D (only_gates l'.1) (only_gates (r'.1 ++ (a'.1 ++ (b'.1 ++ c'.1))));
      }
