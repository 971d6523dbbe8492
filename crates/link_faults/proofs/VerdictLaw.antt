-- The first of the faults of all kinds is the verdict on a text.
use Rattle.std.proofs.Common.{◌≡◌, ◌⊎◌, inl, inr, Bool, true, false, cond, Some, None, Option}
use Rattle.std.proofs.Common.{List, [], ◌∷◌, refl, sym, ◌∙◌, ap, subst, arith}
use Rattle.std.specs.List.{Contains}
use Rattle.std.proofs.lemmas.List.Elements.{Contains-append_left, Contains-append_right, Contains-push}
use Rattle.std.proofs.lemmas.List.Elements.{Contains-push_cases, Contains-append_cases}
use Rattle.hh_base.specs.declared.value.Pos.{Pos}
use Rattle.link_faults.specs.declared.fault.LinkKind.{LinkKind}
use Rattle.link_faults.specs.declared.fault.LinkKind.TheVariants as fault
use Rattle.link_faults.specs.declared.fault.LinkFault.{LinkFault}
use Rattle.link_faults.specs.Faults.{is_before, earlier}
use Rattle.link_faults.specs.Earliest.{first_at, first_by}
use Rattle.link_faults.specs.Rows.{Program}
use Rattle.link_faults.specs.FirstFault.{HasFault, IsVerdict}
use Rattle.link_faults.proofs.EarlierLaws.{before_itself, not_before_first, not_before_second}

-- ---- elements of a list, by its first one

none_in : {A : Type 0} (x : A) → Contains [] x → ⊥
none_in x h = omega (arith, h.1)

in_cons : {A : Type 0} (x : A) (xs : List A) (y : A) → Contains (x ∷ xs) y → (x ≡ y) ⊎ Contains xs y
in_cons {A} x xs y h = by (Contains-append_cases (x ∷ []) xs y h)
  where
    only : Contains {X = A} [] y ⊎ (x ≡ y) → (x ≡ y) ⊎ Contains xs y
    only (inl h) = absurd (none_in y h)
    only (inr e) = inl e

    by : Contains (x ∷ []) y ⊎ Contains xs y → (x ≡ y) ⊎ Contains xs y
    by (inl h) = only (Contains-push_cases [] x y h)
    by (inr h) = inr h

pub is_first_one : {A : Type 0} (x : A) (xs : List A) (y : A) → x ≡ y → Contains (x ∷ xs) y
is_first_one x xs y e = subst (Contains (x ∷ xs)) e (Contains-append_left (x ∷ []) xs x (Contains-push [] x))

pub is_later_one : {A : Type 0} (x : A) (xs : List A) (y : A) → Contains xs y → Contains (x ∷ xs) y
is_later_one x xs y h = Contains-append_right (x ∷ []) xs y h

-- ---- the first of the faults that there are

record IsFirstOf (P : LinkFault → Type 0) (f : LinkFault) : Type 0 where
  found : P f
  first : (g : LinkFault) → P g → is_before g f ≡ false

abbrev IsLeast : (LinkFault → Type 0) → Option LinkFault → Type 0
IsLeast P None = (g : LinkFault) → P g → ⊥
IsLeast P (Some f) = IsFirstOf P f

least_of_one : (a : LinkFault) → IsLeast (λ f. a ≡ f) (Some a)
least_of_one a = record {
  found = refl;
  first = λ g e. subst (λ h. is_before h a ≡ false) e (before_itself a);
}

least_of_both : (P Q : LinkFault → Type 0) (a b : Option LinkFault) → IsLeast P a → IsLeast Q b
    → IsLeast (λ f. P f ⊎ Q f) (earlier a b)
least_of_both P Q None None p q = λ g h. none g h
  where
    none : (g : LinkFault) → P g ⊎ Q g → ⊥
    none g (inl h) = p g h
    none g (inr h) = q g h
least_of_both P Q None (Some b) p q = record { found = inr q.found; first = λ g h. first g h }
  where
    first : (g : LinkFault) → P g ⊎ Q g → is_before g b ≡ false
    first g (inl h) = absurd (p g h)
    first g (inr h) = q.first g h
least_of_both P Q (Some a) None p q = record { found = inl p.found; first = λ g h. first g h }
  where
    first : (g : LinkFault) → P g ⊎ Q g → is_before g a ≡ false
    first g (inl h) = p.first g h
    first g (inr h) = absurd (q g h)
least_of_both P Q (Some a) (Some b) p q = by (is_before b a) refl
  where
    of_first : is_before b a ≡ false → (g : LinkFault) → P g ⊎ Q g → is_before g a ≡ false
    of_first is g (inl h) = p.first g h
    of_first is g (inr h) = not_before_first g a b is (q.first g h)

    of_second : is_before b a ≡ true → (g : LinkFault) → P g ⊎ Q g → is_before g b ≡ false
    of_second is g (inl h) = not_before_second g a b is (p.first g h)
    of_second is g (inr h) = q.first g h

    by : (t : Bool) → is_before b a ≡ t → IsFirstOf (λ f. P f ⊎ Q f) (cond t b a)
    by true is = record { found = inr q.found; first = of_second is }
    by false is = record { found = inl p.found; first = of_first is }

-- the same faults, said in other words
least_alike : (P Q : LinkFault → Type 0) (v : Option LinkFault) → ((f : LinkFault) → P f → Q f)
    → ((f : LinkFault) → Q f → P f) → IsLeast P v → IsLeast Q v
least_alike P Q None to from p = λ g h. p g (from g h)
least_alike P Q (Some f) to from p = record { found = to f p.found; first = λ g h. p.first g (from g h) }

-- ---- faults of one kind, and of several

abbrev OfKind : LinkKind → List Pos → LinkFault → Type 0
OfKind k ps f = (f.kind ≡ k) × Contains ps f.pos

abbrev there : LinkKind → Pos → LinkFault
there k p = record { pos = p; kind = k }

least_of_kind : (k : LinkKind) (ps : List Pos) → IsLeast (OfKind k ps) (first_at k ps)
least_of_kind k [] = λ g h. none_in g.pos h.1
least_of_kind k (p ∷ ps) = least_alike (λ f. (there k p ≡ f) ⊎ OfKind k ps f) (OfKind k (p ∷ ps))
    (earlier (Some (there k p)) (first_at k ps)) to from
    (least_of_both (λ f. there k p ≡ f) (OfKind k ps) (Some (there k p)) (first_at k ps) (least_of_one (there k p)) (least_of_kind k ps))
  where
    to : (f : LinkFault) → (there k p ≡ f) ⊎ OfKind k ps f → OfKind k (p ∷ ps) f
    to f (inl e) = (ap (λ g. g.kind) (sym e), is_first_one p ps f.pos (ap (λ g. g.pos) e))
    to f (inr h) = (h.0, is_later_one p ps f.pos h.1)

    by : (f : LinkFault) → f.kind ≡ k → (p ≡ f.pos) ⊎ Contains ps f.pos → (there k p ≡ f) ⊎ OfKind k ps f
    by f e (inl at) = inl (ap (λ q. record { pos = q; kind = k }) at
        ∙ ap (λ j. record { pos = f.pos; kind = j }) (sym e))
    by f e (inr h) = inr (e, h)

    from : (f : LinkFault) → OfKind k (p ∷ ps) f → (there k p ≡ f) ⊎ OfKind k ps f
    from f h = by f h.0 (in_cons p ps f.pos h.1)

-- the rows of a table, one for each kind
abbrev pub Table : Type 0
Table = LinkKind → List Pos

abbrev OfKinds : Table → List LinkKind → LinkFault → Type 0
OfKinds rows ks f = Contains ks f.kind × Contains (rows f.kind) f.pos

least_of_kinds : (rows : Table) (ks : List LinkKind)
    → IsLeast (OfKinds rows ks) (first_by (λ k. first_at k (rows k)) ks)
least_of_kinds rows [] = λ g h. none_in g.kind h.0
least_of_kinds rows (k ∷ ks) = least_alike (λ f. OfKind k (rows k) f ⊎ OfKinds rows ks f)
    (OfKinds rows (k ∷ ks)) (first_by (λ k. first_at k (rows k)) (k ∷ ks)) to from
    (least_of_both (OfKind k (rows k)) (OfKinds rows ks) (first_at k (rows k))
    (first_by (λ k. first_at k (rows k)) ks) (least_of_kind k (rows k)) (least_of_kinds rows ks))
  where
    to : (f : LinkFault) → OfKind k (rows k) f ⊎ OfKinds rows ks f → OfKinds rows (k ∷ ks) f
    to f (inl h) = (
      is_first_one k ks f.kind (sym h.0),
      subst (λ j. Contains (rows j) f.pos) (sym h.0) h.1,
    )
    to f (inr h) = (is_later_one k ks f.kind h.0, h.1)

    by : (f : LinkFault) → Contains (rows f.kind) f.pos → (k ≡ f.kind) ⊎ Contains ks f.kind
        → OfKind k (rows k) f ⊎ OfKinds rows ks f
    by f h (inl e) = inl (sym e, subst (λ j. Contains (rows j) f.pos) (sym e) h)
    by f h (inr later) = inr (later, h)

    from : (f : LinkFault) → OfKinds rows (k ∷ ks) f → OfKind k (rows k) f ⊎ OfKinds rows ks f
    from f h = by f h.1 (in_cons k ks f.kind h.0)

-- ---- the verdict

abbrev pub all_kinds : List LinkKind
all_kinds = fault.TwiceDeclared ∷ fault.UnknownSignal ∷ fault.UnknownModule ∷ fault.UnknownTrap
    ∷ fault.UnknownBody ∷ fault.KindWrong ∷ fault.EmitsInput ∷ fault.BadBinding ∷ fault.RunCycle ∷ []

is_kind_of_all : (k : LinkKind) → Contains all_kinds k
is_kind_of_all fault.TwiceDeclared = (0, omega arith, refl)
is_kind_of_all fault.UnknownSignal = (1, omega arith, refl)
is_kind_of_all fault.UnknownModule = (2, omega arith, refl)
is_kind_of_all fault.UnknownTrap = (3, omega arith, refl)
is_kind_of_all fault.UnknownBody = (4, omega arith, refl)
is_kind_of_all fault.KindWrong = (5, omega arith, refl)
is_kind_of_all fault.EmitsInput = (6, omega arith, refl)
is_kind_of_all fault.BadBinding = (7, omega arith, refl)
is_kind_of_all fault.RunCycle = (8, omega arith, refl)

-- of a table whose rows are those of the text, the first fault is the verdict
pub first_is_verdict : (parts : Program) (rows : Table)
    → ((k : LinkKind) (p : Pos) → Contains (rows k) p → HasFault parts k p)
    → ((k : LinkKind) (p : Pos) → HasFault parts k p → Contains (rows k) p)
    → IsVerdict parts (first_by (λ k. first_at k (rows k)) all_kinds)
first_is_verdict parts rows to from = by (first_by (λ k. first_at k (rows k)) all_kinds)
    (least_of_kinds rows all_kinds)
  where
    by : (v : Option LinkFault) → IsLeast (OfKinds rows all_kinds) v → IsVerdict parts v
    by None least = λ k p h. least (record { pos = p; kind = k }) (is_kind_of_all k, from k p h)
    by (Some f) least = record {
      found = to f.kind f.pos least.found.1;
      first = λ g h. least.first g (is_kind_of_all g.kind, from g.kind g.pos h);
    }
