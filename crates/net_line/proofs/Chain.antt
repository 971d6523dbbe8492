-- A reader reads what is written, and nothing else: of parts in turn.
use Rattle.std.proofs.Common.{◌≡◌, ℕ, List, [], ◌∷◌, ◌++◌, Option, Some, None, refl, sym, ap, ◌∙◌}
use Rattle.std.proofs.Common.{append_assoc, subst}
use Rattle.net_line.specs.Reading.{Read, Reader, and_then, ◌>>=◌, pure}

-- what was read by two readers in turn
pub record Between {A B : Type 0} (p : Read A) (f : A → Reader B) (b : B) (left : List ℕ) : Type 0 where
  pub first : A
  pub mid : List ℕ
  pub read : p ≡ Some (first, mid)
  pub then_read : f first mid ≡ Some (b, left)

pub between : {A B : Type 0} (p : Read A) (f : A → Reader B) (b : B) (left : List ℕ)
    → and_then p f ≡ Some (b, left) → Between p f b left
between (Some p) f b left e = record { first = p.0; mid = p.1; read = refl; then_read = e }
between None f b left e = absurd cc

abbrev found_or : {X : Type 0} → X → Option X → X
found_or d (Some x) = x
found_or d None = d

pub same_read : {A : Type 0} (a b : A) (x y : List ℕ) → ◌≡◌ {A = Option (A × List ℕ)} (Some (a, x)) (Some
    (b, y))
    → (a ≡ b) × (x ≡ y)
same_read {A} a b x y e = (
  ap (λ (o : Option (A × List ℕ)). (found_or (a, x) o).0) e,
  ap (λ (o : Option (A × List ℕ)). (found_or (a, x) o).1) e,
)

-- of what keeps P, the reader reads what is written where it has the form F and E holds of what follows
pub record Reads_under {S : Type 0} (E : List ℕ → Type 0) (r : Reader S) (W : S → List ℕ) (F P : S → Type 0)
    : Type 0 where
  pub complete : (s : S) → P s → F s → (c : List ℕ) → E c → r (W s ++ c) ≡ Some (s, c)
  pub sound : (l : List ℕ) (s : S) (c : List ℕ) → r l ≡ Some (s, c) → (l ≡ W s ++ c) × F s × P s

abbrev pub Anything : {S : Type 0} → S → Type 0
Anything s = Unit {0}

abbrev pub ReadsAll : {S : Type 0} → (List ℕ → Type 0) → Reader S → (S → List ℕ) → (S → Type 0) → Type 0
ReadsAll E r W F = Reads_under E r W F Anything

pub in_turn : {A S : Type 0} {E1 E2 : List ℕ → Type 0} {r1 : Reader A} {W1 : A → List ℕ} {F1 : A → Type 0}
    {r2 : A → Reader S} {W2 : S → List ℕ} {F2 P : S → Type 0} (get : S → A) → ReadsAll E1 r1 W1 F1
    → ((s : S) → F2 s → (c : List ℕ) → E2 c → E1 (W2 s ++ c))
    → ((a : A) → Reads_under E2 (r2 a) W2 F2 (λ s. P s × (get s ≡ a)))
    → Reads_under E2 (r1 >>= r2) (λ s. W1 (get s) ++ W2 s) (λ s. F1 (get s) × F2 s) P
in_turn {A} {S} {E1} {E2} {r1} {W1} {F1} {r2} {W2} {F2} {P} get one follows two = record {
  complete = λ s p f c e.
      ap (λ l. and_then (r1 l) r2) (append_assoc (W1 (get s)) (W2 s) c)
      ∙ ap (λ o. and_then o r2) (one.complete (get s) tt f.0 (W2 s ++ c) (follows s f.1 c e))
      ∙ (two (get s)).complete s (p, refl) f.1 c e;
  sound = λ l s c e.
      let b = between (r1 l) r2 s c e in
      let h = one.sound l b.first b.mid b.read in
      let k = (two b.first).sound b.mid s c b.then_read in
      let is : get s ≡ b.first = k.2.1 in (
        h.0 ∙ ap (λ a. W1 a ++ b.mid) (sym is) ∙ ap (λ m. W1 (get s) ++ m) k.0
            ∙ sym (append_assoc (W1 (get s)) (W2 s) c),
        (subst F1 (sym is) h.1, k.1),
        k.2.0,
      );
}

pub made : {S : Type 0} {E : List ℕ → Type 0} {P : S → Type 0} (it : S) → P it → ((s : S) → P s → it ≡ s)
    → Reads_under E (pure it) (λ s. []) Anything P
made {S} {E} {P} it p same = record {
  complete = λ s ps f c e. ap (λ x. Some (x, c)) (same s ps);
  sound = λ l s c e. let h = same_read it s l c e in (h.1, tt, subst P h.0 p);
}

-- the same under other words
pub reads_same : {S : Type 0} {E : List ℕ → Type 0} {r : Reader S} {W V : S → List ℕ} {F G P : S → Type 0}
    → ((s : S) → W s ≡ V s) → ((s : S) → G s → F s) → ((s : S) → F s → G s) → Reads_under E r W F P
    → Reads_under E r V G P
reads_same {S} {E} {r} {W} {V} same to back h = record {
  complete = λ s p g c e. ap (λ w. r (w ++ c)) (sym (same s)) ∙ h.complete s p (to s g) c e;
  sound = λ l s c e. let k = h.sound l s c e in (k.0 ∙ ap (λ w. w ++ c) (same s), back s k.1, k.2);
}
