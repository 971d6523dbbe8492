-- What the trees of a language keep, combinator by combinator, where each position has a name or none, and
-- each token of the text has that of its place.
use Rattle.std.proofs.Common.{◌≡◌, ℕ, true, List, [], ◌∷◌, Option, Some, None, sym, ap, subst, ◌∙◌, inl, inr}
use Rattle.std.specs.Prelude.{cond, IfSome}
use Rattle.std.specs.List.{AllByRecursion}
use Rattle.hh_base.specs.declared.value.Pos.{Pos}
use Rattle.hh_base.specs.declared.keyword.Keyword.{Keyword}
use Rattle.grammar.specs.Tokens.{Tok}
use Rattle.grammar.specs.Language.{◌>>=◌, pure, ◌or◌, many}
use Rattle.grammar.proofs.Levels.{all_left, all_right}
use Rattle.expression_reader.specs.declared.terminal.Terminal.{Terminal}
use Rattle.expression_reader.specs.declared.terminal.Terminal.TheVariants as terminal
use Rattle.expression_reader.specs.Terminals.{is_name}
use Rattle.expression_reader.specs.Trees.{TextAt, pos_at}
use Rattle.expression_reader.specs.Rules as eg
use Rattle.expression_reader.specs.Rules.{Lang}

-- words that may be names have their text, and all other tokens have no name
abbrev pub name_of : Tok Terminal → Option (List ℕ)
name_of t = cond (is_name t.kind) (Some t.text) None

none_of : (t : Tok Terminal) (word : Keyword) → t.kind ≡ terminal.Keyword word → name_of t ≡ None
none_of t word e = ap (λ k. cond (is_name k) (Some t.text) None) e

some_of : (t : Tok Terminal) → is_name t.kind ≡ true → name_of t ≡ Some t.text
some_of t e = ap (λ b. cond b (Some t.text) None) e

module _ (name_at : Pos → Option (List ℕ)) where
  abbrev pub IsNamed : Tok Terminal → Type 0
  IsNamed t = name_of t ≡ name_at (pos_at t.place)

  abbrev pub Named : List (Tok Terminal) → Type 0
  Named = AllByRecursion IsNamed

  -- each tree of the language has it, whatever its text of named tokens
  pub record Tells {A : Type 0} (P : A → Type 0) (s : Lang A) : Type 0 where
    pub of : (a : A) (text : List (Tok Terminal)) (ks : List ℕ) → Named text → s a text ks → P a

module _ {name_at : Pos → Option (List ℕ)} where
  module _ {A B : Type 0} {Q : B → Type 0} where
    pub tells_then : {P : A → Type 0} {first : Lang A} {second : A → Lang B} → Tells name_at P first
        → ((a : A) → P a → Tells name_at Q (second a)) → Tells name_at Q (first >>= second)
    tells_then f g = record {
      of = λ b text ks named h.
          let both = subst (Named name_at) h.5 named in
          let p = f.of h.0 h.1 h.3 (all_left (IsNamed name_at) h.1 h.2 both) h.7 in
          (g h.0 p).of b h.2 h.4 (all_right (IsNamed name_at) h.1 h.2 both) h.8;
    }

    -- behind what declares nothing
    pub tells_past : {first : Lang A} {second : A → Lang B} → ((a : A) → Tells name_at Q (second a))
        → Tells name_at Q (first >>= second)
    tells_past g = tells_then (record { of = λ a text ks named h. tt }) (λ a (_ : Unit {0}). g a)

  module _ {A : Type 0} {P : A → Type 0} where
    pub tells_pure : {a : A} → P a → Tells name_at P (pure a)
    tells_pure h = record { of = λ b text ks named e. subst P (sym e.0) h }

    pub tells_or : {first second : Lang A} → Tells name_at P first → Tells name_at P second
        → Tells name_at P (first or second)
    tells_or f g = record {
      of = λ a text ks named h. elim h [
        | inl x ↦ f.of a text ks named x
        | inr y ↦ g.of a text ks named y
      ];
    }

    tells_each : {item : Lang A} → Tells name_at P item → (xs : List A) (text : List (Tok Terminal))
        (ks : List ℕ) → Named name_at text → many item xs text ks → AllByRecursion P xs
    tells_each f [] text ks named h = tt
    tells_each f (a ∷ xs) text ks named h =
        let both = subst (Named name_at) h.4 named in (
          f.of a h.0 h.2 (all_left (IsNamed name_at) h.0 h.1 both) h.6,
          tells_each f xs h.1 h.3 (all_right (IsNamed name_at) h.0 h.1 both) h.7,
        )

    pub tells_many : {item : Lang A} → Tells name_at P item → Tells name_at (AllByRecursion P) (many item)
    tells_many f = record { of = tells_each f }

  module _ {A : Type 0} {P : A → Type 0} where
    pub tells_listed : {item : Lang A} → Tells name_at P item
        → Tells name_at (AllByRecursion P) (eg.listed item)
    tells_listed f = tells_then f (λ a h. tells_then (tells_many (tells_past (λ n. f)))
        (λ xs hs. tells_pure (h, hs)))

    pub tells_listed_or_none : {item : Lang A} → Tells name_at P item
        → Tells name_at (AllByRecursion P) (eg.listed_or_none item)
    tells_listed_or_none f = tells_or (tells_listed f) (tells_pure tt)

    pub tells_if_some : {part : Lang A} → Tells name_at P part
        → Tells name_at (λ x. IfSome x P) (eg.optional part)
    tells_if_some f = tells_or (tells_then f (λ a h. tells_pure h)) (tells_pure tt)

  -- ---- one token

  -- the position of a keyword has no name
  pub keyword : (word : Keyword) → Tells name_at (λ n. None ≡ name_at (pos_at n)) (eg.keyword word)
  keyword word = record {
    of = λ n text ks named h.
        let t = h.0 in
        let is = (subst (Named name_at) h.1 named).0 in
        sym (none_of t word h.2) ∙ is ∙ ap (λ p. name_at (pos_at p)) (sym h.3);
  }

  -- the position of a name has it
  pub name : Tells name_at (λ (n : TextAt). Some n.1 ≡ name_at (pos_at n.0)) eg.name
  name = record {
    of = λ n text ks named h.
        let t = h.0 in
        let is = (subst (Named name_at) h.1 named).0 in
        ap (λ (m : TextAt). Some m.1) h.3 ∙ sym (some_of t h.2) ∙ is
        ∙ ap (λ (m : TextAt). name_at (pos_at m.0)) (sym h.3);
  }
