-- What a text has as types, first values and signals passes the tests of source trees.
use Rattle.std.proofs.Common.{◌≡◌, ℕ, zero, suc, ◌≤◌, true, false, Bool, List, [], ◌∷◌, Option, refl, arith}
use Rattle.std.specs.Prelude.{◌^◌, pos, neg_ℤ, IfSome}
use Rattle.std.specs.List.{AllByRecursion, list_all}
use Rattle.std.proofs.lemmas.Bool.{le-leb}
use Rattle.hh_base.specs.declared.value.Kind.{Kind}
use Rattle.hh_base.specs.declared.value.Kind.TheVariants as kind
use Rattle.hh_base.specs.declared.value.CombineWord.{CombineWord}
use Rattle.module_tree.specs.SourceWords.{is_written_name, is_written_integer, is_written_text}
use Rattle.module_tree.specs.SourceWords.{is_written_value}
use Rattle.hh_base.specs.Value.{is_valued, is_interface}
use Rattle.module_tree.specs.SourceForms.{is_filled, if_there, fits_name, fits_signal, fits_interface}
use Rattle.module_tree.specs.SourceForms.{fits_parameter, fits_binding}
use Rattle.grammar.specs.Language as l
use Rattle.hh_base.specs.declared.keyword.Keyword.{Keyword}
use Rattle.hh_base.specs.declared.keyword.Keyword.TheVariants as w
use Rattle.expression_reader.specs.Trees.{TextAt}
use Rattle.expression_reader.specs.Rules as eg
use Rattle.module_reader.specs.Rules as g
use Rattle.expression_reader.specs.Rules.{Lang}
use Rattle.expression_reader.proofs.written.Keeping.{Keeps, keeps, keeps_then, keeps_after, keeps_pure}
use Rattle.expression_reader.proofs.written.Keeping.{keeps_or, keeps_many, keeps_more}
use Rattle.expression_reader.proofs.written.Nodes.{both}
use Rattle.expression_reader.proofs.written.Expressions.{tells_name, tells_quoted, tells_number}

-- ---- lists and options

pub all_pass : {A : Type 0} (test : A → Bool) (xs : List A) → AllByRecursion (λ a. test a ≡ true) xs
    → list_all test xs ≡ true
all_pass test [] h = refl
all_pass test (a ∷ xs) h = both h.0 (all_pass test xs h.1)

module _ {A : Type 0} {P : A → Type 0} {item : Lang A} (h : Keeps P item) where
  -- and there is one
  pub keeps_listed : Keeps (λ xs. (is_filled xs ≡ true) × AllByRecursion P xs) (eg.listed item)
  keeps_listed = keeps_then h (λ a p. keeps_then (keeps_many (keeps_after (λ n. h)))
      (λ xs q. keeps_pure (refl, (p, q))))

  pub keeps_listed_or_none : Keeps (AllByRecursion P) (eg.listed_or_none item)
  keeps_listed_or_none = keeps_or (keeps_more (λ xs q. q.1) keeps_listed) (keeps_pure tt)

pub keeps_if_some : {A : Type 0} {P : A → Type 0} {part : Lang A} → Keeps P part
    → Keeps (λ x. IfSome x P) (eg.optional part)
keeps_if_some h = keeps_or (keeps_then h (λ a p. keeps_pure p)) (keeps_pure tt)

module _ {A : Type 0} {test : A → Bool} {part : Lang A} (h : Keeps (λ a. test a ≡ true) part) where
  pub keeps_optional : Keeps (λ x. if_there test x ≡ true) (eg.optional part)
  keeps_optional = keeps_or (keeps_then h (λ a p. keeps_pure p)) (keeps_pure refl)

-- ---- names, types and values

pub name : Keeps (λ (n : TextAt). is_written_name n.1 ≡ true) eg.name
name = keeps tells_name

pub named : Keeps (λ n. fits_name n ≡ true) eg.named
named = keeps_then name (λ n h. keeps_pure h)

pub valued : Keeps (λ k. is_valued k ≡ true) g.valued
valued = keeps_or (keeps_after (λ n. keeps_pure refl)) (keeps_or (keeps_after (λ n. keeps_pure refl))
    (keeps_after (λ n. keeps_pure refl)))

pub type : Keeps (λ (k : Kind). Unit {0}) g.kind
type = record { of = λ a text ks lawful few h. tt }

literal_by : (word : Keyword) (b : Bool) → Keeps (λ v. is_written_value v ≡ true) (g.literal_by word b)
literal_by word b = keeps_after (λ n. keeps_pure refl)

literal_text : Keeps (λ v. is_written_value v ≡ true) g.literal_text
literal_text = keeps_then (keeps tells_quoted) (λ n h. keeps_pure h)

literal_number : Keeps (λ v. is_written_value v ≡ true) g.literal_number
literal_number = keeps_then (keeps (tells_number 0 eg.largest)) (λ n h. keeps_pure (below n h))
  where
    below : (n : ℕ × ℕ) → (0 ≤ n.1) × (n.1 ≤ eg.largest) → is_written_integer (pos n.1) ≡ true
    below n h = le-leb (suc n.1) (2 ^ 63) (omega (arith, h.1))

literal_negative : Keeps (λ v. is_written_value v ≡ true) g.literal_negative
literal_negative = keeps_after (λ q. keeps_then (keeps (tells_number 0 (2 ^ 63)))
    (λ n h. keeps_pure (above n.1 h.1)))
  where
    above : (n : ℕ) → n ≤ 2 ^ 63 → is_written_integer (neg_ℤ (pos n)) ≡ true
    above zero h = refl
    above (suc n) h = le-leb (suc n) (2 ^ 63) h

literal : Keeps (λ v. is_written_value v ≡ true) g.literal
literal = keeps_or (literal_by w.True true) (keeps_or (literal_by w.False false)
    (keeps_or literal_text (keeps_or literal_number literal_negative)))

-- ---- signals

any_kind : Keeps (λ (k : Kind). Unit {0}) (l.◌or◌ g.behind_colon (l.pure kind.Pure))
any_kind = record { of = λ a text ks lawful few h. tt }

any_combine : Keeps (λ (c : Option CombineWord). Unit {0}) (eg.optional g.behind_combine)
any_combine = record { of = λ a text ks lawful few h. tt }

pub signal : Keeps (λ s. fits_signal s ≡ true) g.signal
signal = keeps_then name
    (λ n h. keeps_then any_kind (λ k (u : Unit {0}). keeps_then (keeps_optional (keeps_after (λ q. literal)))
    (λ v e. keeps_then any_combine (λ c (u : Unit {0}). keeps_pure (both h e)))))

direction : Keeps (λ d. is_interface d ≡ true) g.direction
direction = keeps_or (keeps_after (λ n. keeps_pure refl)) (keeps_or (keeps_after (λ n. keeps_pure refl))
    (keeps_after (λ n. keeps_pure refl)))

pub interface : Keeps (λ d. fits_interface d ≡ true) g.interface
interface = keeps_then direction (λ d h. keeps_then signal (λ s e. keeps_pure (both h e)))

pub parameter : Keeps (λ p. fits_parameter p ≡ true) g.parameter
parameter = keeps_then name (λ n h. keeps_after (λ q. keeps_then valued (λ k e. keeps_pure (both h e))))

pub binding : Keeps (λ b. fits_binding b ≡ true) g.binding
binding = keeps_then named (λ a h. keeps_after (λ q. keeps_then named (λ b e. keeps_pure (both h e))))

pub handler : (word : Keyword) → Keeps (λ z. is_written_text z ≡ true) (g.handler word)
handler word = keeps_after (λ n. keeps_then (keeps tells_quoted) (λ q h. keeps_pure h))
