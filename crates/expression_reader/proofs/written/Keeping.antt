-- What the trees of a language keep, combinator by combinator: outside expressions where no leaf or operator
-- is past the limit, and inside by their number.
use Rattle.std.proofs.Common.{◌≡◌, ℕ, ◌+◌, ◌≤◌, List, [], ◌∷◌, ◌++◌, Option, Some, None, refl, sym, subst, arith, inl, inr}
use Rattle.std.specs.List.{AllByRecursion}
use Rattle.grammar.specs.Tokens.{Tok}
use Rattle.grammar.specs.Texts.{Few}
use Rattle.grammar.specs.Language as l
use Rattle.grammar.specs.Language.{◌>>=◌, pure, ◌or◌, many}
use Rattle.grammar.proofs.Levels.{marked, marked-append, all_left, all_right}
use Rattle.expression_reader.specs.declared.terminal.Terminal.{Terminal}
use Rattle.expression_reader.specs.Terminals.{symbols}
use Rattle.expression_reader.specs.Rules.{Lang, optional}
use Rattle.expression_reader.proofs.Lawful.{IsLawful, Lawful}

-- each tree of the language has it, whatever its text of lawful tokens
pub record Tells {A : Type 0} (P : A → Type 0) (s : Lang A) : Type 0 where
  pub of : (a : A) (text : List (Tok Terminal)) (ks : List ℕ) → Lawful text → s a text ks → P a

-- the same of a text in which no leaf or operator is past the limit
pub record Keeps {A : Type 0} (P : A → Type 0) (s : Lang A) : Type 0 where
  pub of : (a : A) (text : List (Tok Terminal)) (ks : List ℕ) → Lawful text → Few symbols ks → s a text ks
      → P a

-- the same inside an expression, with the number of leaves and operators
pub record Counts {A : Type 0} (P : A → ℕ → Type 0) (s : Lang A) : Type 0 where
  pub of : (a : A) (text : List (Tok Terminal)) (ms : List ℕ) → Lawful text → s a text ms → P a (marked ms)

abbrev few_left : (p q : List ℕ) → Few symbols (p ++ q) → Few symbols p
few_left p q h = all_left (λ k. k ≤ 1024) p q h

abbrev few_right : (p q : List ℕ) → Few symbols (p ++ q) → Few symbols q
few_right p q h = all_right (λ k. k ≤ 1024) p q h

-- ---- outside expressions

pub keeps : {A : Type 0} {P : A → Type 0} {s : Lang A} → Tells P s → Keeps P s
keeps f = record { of = λ a text ks lawful few h. f.of a text ks lawful h }

module _ {A B : Type 0} {P : A → Type 0} {Q : B → Type 0} where
  pub keeps_then : {first : Lang A} {second : A → Lang B} → Keeps P first
      → ((a : A) → P a → Keeps Q (second a)) → Keeps Q (first >>= second)
  keeps_then f g = record {
    of = λ b text ks lawful few h.
        let lawful2 = subst Lawful h.5 lawful in
        let few2 = subst (Few symbols) h.6 few in
        let p = f.of h.0 h.1 h.3 (all_left IsLawful h.1 h.2 lawful2) (few_left h.3 h.4 few2) h.7 in
        (g h.0 p).of b h.2 h.4 (all_right IsLawful h.1 h.2 lawful2) (few_right h.3 h.4 few2) h.8;
  }

module _ {A : Type 0} {P : A → Type 0} where
  -- behind a token, given its place
  pub keeps_after : {k : Terminal} {second : ℕ → Lang A} → ((n : ℕ) → Keeps P (second n))
      → Keeps P (l.token k >>= second)
  keeps_after g = keeps_then (record { of = λ a text ks lawful few h. tt }) (λ n (_ : Unit {0}). g n)

  pub keeps_pure : {a : A} → P a → Keeps P (pure a)
  keeps_pure h = record { of = λ b text ks lawful few e. subst P (sym e.0) h }

  pub keeps_or : {first second : Lang A} → Keeps P first → Keeps P second → Keeps P (first or second)
  keeps_or f g = record {
    of = λ a text ks lawful few h. elim h [
      | inl x ↦
          f.of a text ks lawful few x
      | inr y ↦ g.of a text ks lawful few y
    ];
  }

  keeps_each : {item : Lang A} → Keeps P item → (xs : List A) (text : List (Tok Terminal)) (ks : List ℕ)
      → Lawful text → Few symbols ks → many item xs text ks → AllByRecursion P xs
  keeps_each f [] text ks lawful few h = tt
  keeps_each f (a ∷ xs) text ks lawful few h =
      let lawful2 = subst Lawful h.4 lawful in
      let few2 = subst (Few symbols) h.5 few in (
        f.of a h.0 h.2 (all_left IsLawful h.0 h.1 lawful2) (few_left h.2 h.3 few2) h.6,
        keeps_each f xs h.1 h.3 (all_right IsLawful h.0 h.1 lawful2) (few_right h.2 h.3 few2) h.7,
      )

  pub keeps_many : {item : Lang A} → Keeps P item → Keeps (AllByRecursion P) (many item)
  keeps_many f = record { of = keeps_each f }

  pub keeps_more : {Q : A → Type 0} {s : Lang A} → ((a : A) → Q a → P a) → Keeps Q s → Keeps P s
  keeps_more g f = record { of = λ a text ks lawful few h. g a (f.of a text ks lawful few h) }

-- ---- inside an expression

module _ {A B : Type 0} {P : A → ℕ → Type 0} {Q : B → ℕ → Type 0} where
  pub counts_then : {first : Lang A} {second : A → Lang B} → Counts P first
      → ((a : A) (n : ℕ) → P a n → Counts (λ b m. Q b (n + m)) (second a)) → Counts Q (first >>= second)
  counts_then f g = record {
    of = λ b text ms lawful h.
        let lawful2 = subst Lawful h.5 lawful in
        let p = f.of h.0 h.1 h.3 (all_left IsLawful h.1 h.2 lawful2) h.7 in
        let q = (g h.0 (marked h.3) p).of b h.2 h.4 (all_right IsLawful h.1 h.2 lawful2) h.8 in
        rw (h.6, marked-append h.3 h.4) q;
  }

module _ {A : Type 0} {P : A → ℕ → Type 0} where
  pub counts_after : {k : Terminal} {second : ℕ → Lang A} → ((n : ℕ) → Counts P (second n))
      → Counts P (l.token k >>= second)
  counts_after g = record {
    of = λ b text ms lawful h.
        let q = (g h.0).of b h.2 h.4 (all_right IsLawful h.1 h.2 (subst Lawful h.5 lawful)) h.8 in
        rw (h.6, h.7.4) q;
  }

  pub counts_pure : {a : A} → P a 0 → Counts P (pure a)
  counts_pure h = record { of = λ b text ms lawful e. rw (e.0, e.2) h }

  pub counts_or : {first second : Lang A} → Counts P first → Counts P second → Counts P (first or second)
  counts_or f g = record {
    of = λ a text ms lawful h. elim h [
      | inl x ↦ f.of a text ms lawful x
      | inr y ↦
          g.of a text ms lawful y
    ];
  }

  pub counts_more : {Q : A → ℕ → Type 0} {s : Lang A} → ((a : A) (n : ℕ) → Q a n → P a n) → Counts Q s
      → Counts P s
  counts_more g f = record { of = λ a text ms lawful h. g a (marked ms) (f.of a text ms lawful h) }

-- each of a list has it, with numbers whose sum this is
abbrev pub Sums : {A : Type 0} → (A → ℕ → Type 0) → List A → ℕ → Type 0
Sums P [] n = n ≡ 0
Sums P (a ∷ xs) n = (k : ℕ) × (m : ℕ) × (n ≡ k + m) × P a k × Sums P xs m

-- it has it, if it is there
abbrev pub IfThere : {A : Type 0} → (A → ℕ → Type 0) → Option A → ℕ → Type 0
IfThere P None n = n ≡ 0
IfThere P (Some a) n = P a n

module _ {A : Type 0} {P : A → ℕ → Type 0} where
  counts_each : {item : Lang A} → Counts P item → (xs : List A) (text : List (Tok Terminal)) (ms : List ℕ)
      → Lawful text → many item xs text ms → Sums P xs (marked ms)
  counts_each f [] text ms lawful h = rw h.1 refl
  counts_each f (a ∷ xs) text ms lawful h =
      let lawful2 = subst Lawful h.4 lawful in (
        marked h.2,
        marked h.3,
        rw h.5 (marked-append h.2 h.3),
        f.of a h.0 h.2 (all_left IsLawful h.0 h.1 lawful2) h.6,
        counts_each f xs h.1 h.3 (all_right IsLawful h.0 h.1 lawful2) h.7,
      )

  pub counts_many : {item : Lang A} → Counts P item → Counts (Sums P) (many item)
  counts_many f = record { of = counts_each f }

  pub counts_optional : {part : Lang A} → Counts P part → Counts (IfThere P) (optional part)
  counts_optional f = counts_or
      (counts_then f (λ a n h. counts_pure (subst (P a) (let e : n ≡ n + 0 = omega arith in e) h)))
      (counts_pure refl)

-- ---- one token

pub counts_counted : {A : Type 0} {P : A → Type 0} {s : Lang A} → Tells P s
    → Counts (λ a n. (n ≡ 1) × P a) (l.counted s)
counts_counted f = record { of = λ a text ms lawful h. (rw h.1 refl, f.of a text (0 ∷ []) lawful h.0) }
