-- Words whose tokens are a text of a language, combinator by combinator: however the tokens stand, the text
-- has a tree of which something is told.
use Rattle.std.proofs.Common.{◌≡◌, ℕ, ◌≤◌, List, [], ◌∷◌, ◌++◌, map, Option, Some, None, refl, sym, ap, subst, ◌∙◌, inl, inr, append-nil}
use Rattle.std.specs.Prelude.{option_map}
use Rattle.std.specs.List.{AllByRecursion, flat_map}
use Rattle.grammar.specs.Texts.{Few}
use Rattle.grammar.specs.Language.{◌>>=◌, pure, ◌or◌, many}
use Rattle.grammar.proofs.Levels.{all-append}
use Rattle.module_token.specs.Tokens.{TextToken}
use Rattle.expression_reader.specs.Terminals.{symbols}
use Rattle.module_printer.specs.ExpressionTokens.{Lexemes}
use Rattle.module_printer.specs.SourceTokens.{if_there}
use Rattle.round_trip.proofs.Lexemes.{Spells}
use Rattle.module_reader.specs.Reading.{to_grammar}
use Rattle.expression_reader.specs.Rules.{Lang, optional}

-- a tree of these tokens, in which no leaf or operator is past the limit
pub record Lifted {A : Type 0} (P : A → Type 0) (s : Lang A) (ts : List TextToken) : Type 0 where
  pub tree : A
  pub marks : List ℕ
  pub is_text : s tree (map to_grammar ts) marks
  pub few : Few symbols marks
  pub told : P tree

pub record Lifts {A : Type 0} (P : A → Type 0) (s : Lang A) (ws : Lexemes) : Type 0 where
  pub lift : (ts : List TextToken) → Spells ws ts → Lifted P s ts

-- ---- tokens in two parts

record Split (xs ys : Lexemes) (ts : List TextToken) : Type 0 where
  front : List TextToken
  back : List TextToken
  whole : ts ≡ front ++ back
  spells_front : Spells xs front
  spells_back : Spells ys back

split : (xs ys : Lexemes) (ts : List TextToken) → Spells (xs ++ ys) ts → Split xs ys ts
split [] ys ts h = record { front = []; back = ts; whole = refl; spells_front = tt; spells_back = h }
split (x ∷ xs) ys [] h = absurd h
split (x ∷ xs) ys (t ∷ ts) h =
    let s = split xs ys ts h.2 in
    record {
      front = t ∷ s.front;
      back = s.back;
      whole = ap (λ (l : List TextToken). t ∷ l) s.whole;
      spells_front = (h.0, h.1, s.spells_front);
      spells_back = s.spells_back;
    }

to_grammar-append : (xs ys : List TextToken) → map to_grammar (xs ++ ys) ≡ map to_grammar xs
    ++ map to_grammar ys
to_grammar-append [] ys = refl
to_grammar-append (t ∷ xs) ys = ap (λ l. to_grammar t ∷ l) (to_grammar-append xs ys)

few_append : (p q : List ℕ) → Few symbols p → Few symbols q → Few symbols (p ++ q)
few_append p q h g = all-append (λ k. k ≤ 1024) p q h g

-- ---- one after the other

module _ {A B : Type 0} {P : A → Type 0} {Q : B → Type 0} where
  pub lifts_then : {first : Lang A} {second : A → Lang B} {xs ys : Lexemes} → Lifts P first xs
      → ((a : A) → P a → Lifts Q (second a) ys) → Lifts Q (first >>= second) (xs ++ ys)
  lifts_then {first} {second} {xs} {ys} f g = record {
    lift = λ ts h.
        let s = split xs ys ts h in
        let one = f.lift s.front s.spells_front in
        let two = (g one.tree one.told).lift s.back s.spells_back in
        record {
          tree = two.tree;
          marks = one.marks ++ two.marks;
          is_text = (
            one.tree,
            map to_grammar s.front,
            map to_grammar s.back,
            one.marks,
            two.marks,
            ap
                (map to_grammar) s.whole ∙ to_grammar-append s.front s.back,
            refl,
            one.is_text,
            two.is_text,
          );
          few = few_append one.marks two.marks one.few two.few;
          told = two.told;
        };
  }

  -- what is made of a tree
  pub lifts_made : {first : Lang A} {make : A → B} {xs : Lexemes} → Lifts P first xs
      → ((a : A) → P a → Q (make a)) → Lifts Q (first >>= (λ a. pure (make a))) xs
  lifts_made {first} {make} {xs} f g = record {
    lift = λ ts h.
        let one = f.lift ts h in
        record {
          tree = make one.tree;
          marks = one.marks;
          is_text = (
            one.tree,
            map to_grammar ts,
            [],
            one.marks,
            [],
            sym (append-nil (map to_grammar ts)),
            sym
                (append-nil one.marks),
            one.is_text,
            (refl, refl, refl),
          );
          few = one.few;
          told = g one.tree one.told;
        };
  }

module _ {A : Type 0} {P : A → Type 0} where
  nothing_left : (a : A) → P a → (ts : List TextToken) → Spells [] ts → Lifted P (pure a) ts
  nothing_left a h [] e = record { tree = a; marks = []; is_text = (refl, refl, refl); few = tt; told = h }
  nothing_left a h (t ∷ ts) e = absurd e

  pub lifts_pure : {a : A} → P a → Lifts P (pure a) []
  lifts_pure {a} h = record { lift = nothing_left a h }

  pub lifts_left : {first second : Lang A} {ws : Lexemes} → Lifts P first ws → Lifts P (first or second) ws
  lifts_left f = record {
    lift = λ ts h. let x = f.lift ts h in
        record { tree = x.tree; marks = x.marks; is_text = inl x.is_text; few = x.few; told = x.told };
  }

  pub lifts_right : {first second : Lang A} {ws : Lexemes} → Lifts P second ws → Lifts P (first or second) ws
  lifts_right f = record {
    lift = λ ts h. let x = f.lift ts h in
        record { tree = x.tree; marks = x.marks; is_text = inr x.is_text; few = x.few; told = x.told };
  }

  pub lifts_more : {Q : A → Type 0} {s : Lang A} {ws : Lexemes} → ((a : A) → Q a → P a) → Lifts Q s ws
      → Lifts P s ws
  lifts_more g f = record {
    lift = λ ts h. let x = f.lift ts h in
        record { tree = x.tree; marks = x.marks; is_text = x.is_text; few = x.few; told = g x.tree x.told };
  }

  pub lifts_words : {s : Lang A} {ws us : Lexemes} → ws ≡ us → Lifts P s ws → Lifts P s us
  lifts_words {s} e f = subst (Lifts P s) e f

-- ---- what is there, and lists

-- the same tree, as this function sees it
abbrev pub Same : {A B : Type 0} → (A → B) → A → A → Type 0
Same f b a = f a ≡ f b

module _ {A B : Type 0} {f : A → B} (words : A → Lexemes) {part : Lang A} where
  pub lifts_optional : (x : Option A) → ((b : A) → x ≡ Some b → Lifts (Same f b) part (words b))
      → Lifts (Same (option_map f) x) (optional part) (if_there words x)
  lifts_optional None h = lifts_right (lifts_pure refl)
  lifts_optional (Some b) h = lifts_left (lifts_made (h b refl) (λ a e. ap Some e))

module _ {A B : Type 0} {f : A → B} (words : A → Lexemes) (around : Lexemes → Lexemes) {item : Lang A} where
  pub each_lifted : (bs : List A) → AllByRecursion (λ b. Lifts (Same f b) item (around (words b))) bs
      → (ts : List TextToken) → Spells (flat_map around (map words bs)) ts
      → Lifted (Same (map f) bs) (many item) ts
  each_lifted [] h [] e = record { tree = []; marks = []; is_text = (refl, refl); few = tt; told = refl }
  each_lifted [] h (t ∷ ts) e = absurd e
  each_lifted (b ∷ bs) h ts e =
      let s = split (around (words b)) (flat_map around (map words bs)) ts e in
      let one = h.0.lift s.front s.spells_front in
      let two = each_lifted bs h.1 s.back s.spells_back in
      record {
        tree = one.tree ∷ two.tree;
        marks = one.marks ++ two.marks;
        is_text = (
          map to_grammar s.front,
          map to_grammar s.back,
          one.marks,
          two.marks,
          ap
              (map to_grammar) s.whole ∙ to_grammar-append s.front s.back,
          refl,
          one.is_text,
          two.is_text,
        );
        few = few_append one.marks two.marks one.few two.few;
        told = λ i. one.told i ∷ two.told i;
      }

  pub lifts_many : (bs : List A) → AllByRecursion (λ b. Lifts (Same f b) item (around (words b))) bs
      → Lifts (Same (map f) bs) (many item) (flat_map around (map words bs))
  lifts_many bs h = record { lift = each_lifted bs h }
