-- Tables of the first places of names, one name more.
use Rattle.std.proofs.Common.{◌≡◌, ℕ, ◌+◌, suc, Bool, true, false, cond, List, [], ◌∷◌, ◌++◌, map, length, take}
use Rattle.std.proofs.Common.{Option, Some, None, refl, sym, ap, ◌∙◌, arith, Bor, get_or, ◌<◌}
use Rattle.std.specs.Str.{bytes_eq}
use Rattle.std.proofs.lemmas.List.{take_more, map-append}
use Rattle.link_faults.specs.Named.{Name, place_from, place_of}
use Rattle.module_link.proofs.Distinct.{equal_names}

abbrev or_else : {A : Type 0} → Option A → Option A → Option A
or_else None b = b
or_else (Some a) b = Some a

place_behind : (n : ℕ) (xs : List Name) (x q : Name)
    → place_from n (xs ++ x ∷ []) q ≡ or_else (place_from n xs q) (cond (bytes_eq x q) (Some (n + length xs)) None)
place_behind n [] x q =
    let here : n ≡ n + 0 = omega arith in
    ap (λ (k : ℕ). cond (bytes_eq x q) (Some k) None) here
place_behind n (y ∷ ys) x q = by (place_behind (n + 1) ys x q) (bytes_eq y q)
  where
    there : (n + 1) + length ys ≡ n + suc (length ys)
    there = omega arith

    by : place_from (n + 1) (ys ++ x ∷ []) q ≡ or_else (place_from (n + 1) ys q) (cond (bytes_eq x q)
        (Some ((n + 1) + length ys)) None)
        → (b : Bool) → cond b (Some n) (place_from (n + 1) (ys ++ x ∷ []) q) ≡ or_else (cond b (Some n)
        (place_from (n + 1) ys q)) (cond (bytes_eq x q) (Some (n + suc (length ys))) None)
    by behind true = refl
    by behind false = behind ∙ ap (λ (k : ℕ). or_else (place_from (n + 1) ys q)
        (cond (bytes_eq x q) (Some k) None)) there

not_both : {A : Type 0} (a : A) → Some a ≡ None → ⊥
not_both a e = cc

-- a name that is new is placed behind the others
pub place_added : (xs : List Name) (x : Name) (old new : Name → Option ℕ) (at : ℕ) → at ≡ length xs
    → ((q : Name) → old q ≡ place_of xs q) → old x ≡ None
    → ((q : Name) → new q ≡ cond (bytes_eq x q) (Some at) (old q))
    → (q : Name) → new q ≡ place_of (xs ++ x ∷ []) q
place_added xs x old new at size is absent adds q =
    adds q ∙ ap (λ (o : Option ℕ). cond (bytes_eq x q) (Some at) o) (is q)
    ∙ by (bytes_eq x q) refl (place_of xs q) refl ∙ sym (place_behind 0 xs x q)
  where
    first : at ≡ 0 + length xs
    first = omega (arith, size)

    by : (b : Bool) → bytes_eq x q ≡ b → (o : Option ℕ) → place_of xs q ≡ o
        → cond b (Some at) o ≡ or_else o (cond b (Some (0 + length xs)) None)
    by true same None e = ap Some first
    by false same None e = refl
    by true same (Some k) e = absurd (not_both k (sym e ∙ ap (place_of xs) (sym (equal_names x q same))
        ∙ sym (is x) ∙ absent))
    by false same (Some k) e = refl

-- a name that is there keeps its place
pub place_kept : (xs : List Name) (x : Name) (old : Name → Option ℕ) → ((q : Name) → old q ≡ place_of xs q)
    → (old x ≡ None → ⊥) → (q : Name) → old q ≡ place_of (xs ++ x ∷ []) q
place_kept xs x old is there q =
    is q ∙ by (bytes_eq x q) refl (place_of xs q) refl ∙ sym (place_behind 0 xs x q)
  where
    by : (b : Bool) → bytes_eq x q ≡ b → (o : Option ℕ) → place_of xs q ≡ o
        → o ≡ or_else o (cond b (Some (0 + length xs)) None)
    by true same None e = absurd (there (is x ∙ ap (place_of xs) (equal_names x q same) ∙ e))
    by false same None e = refl
    by true same (Some k) e = refl
    by false same (Some k) e = refl

pub names_more : (names : List (Bor Name)) (i : ℕ) (d : Bor Name) → i < length names → d ≡ get_or names i d
    → map (λ (m : Bor Name). m.now) (take (i + 1) names) ≡ map (λ (m : Bor Name). m.now) (take i names)
    ++ d.now ∷ []
names_more names i d h e =
    ap (map (λ (m : Bor Name). m.now)) (take_more names i d h)
    ∙ map-append (λ (m : Bor Name). m.now) (take i names) (get_or names i d ∷ [])
    ∙ ap (λ (m : Bor Name). map (λ (m : Bor Name). m.now) (take i names) ++ m.now ∷ []) (sym e)
