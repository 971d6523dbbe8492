-- The words of types, first values, signals and parameters are texts of their rules.
use Rattle.std.proofs.Common.{◌≡◌, ℕ, suc, ◌<◌, ◌^◌, Bool, true, false, List, [], ◌∷◌, map, codes, Option, Some, None, refl, sym, ap, append_assoc, arith}
use Rattle.std.specs.Prelude.{pos, negsuc, neg_ℤ}
use Rattle.std.specs.List.{AllByRecursion, list_all}
use Rattle.std.proofs.lemmas.Bool.{ltb-true}
use Rattle.hh_base.specs.declared.value.Kind.{Kind}
use Rattle.hh_base.specs.declared.value.Kind.TheVariants as kind
use Rattle.hh_base.specs.declared.value.Value.{Value}
use Rattle.hh_base.specs.declared.value.Value.TheVariants as value
use Rattle.hh_base.specs.declared.value.CombineWord.{CombineWord}
use Rattle.hh_base.specs.declared.value.CombineWord.TheVariants as combine
use Rattle.hh_base.specs.declared.value.Dir.{Dir}
use Rattle.hh_base.specs.declared.value.Dir.TheVariants as dir
use Rattle.module_tree.specs.declared.source.NameAt.{NameAt}
use Rattle.module_tree.specs.declared.source.SignalNode.{SignalNode}
use Rattle.module_tree.specs.declared.source.InterfaceNode.{InterfaceNode}
use Rattle.module_tree.specs.declared.source.ParameterNode.{ParameterNode}
use Rattle.module_tree.specs.declared.source.Binding.{Binding}
use Rattle.module_tree.specs.SourceWords.{is_written_name, is_written_text, is_written_value}
use Rattle.module_tree.specs.SourceForms as tests
use Rattle.hh_base.specs.Value.{is_valued, is_interface}
use Rattle.module_tree.specs.SourceForms.{fits_name, fits_signal, fits_interface, fits_parameter, fits_binding}
use Rattle.grammar.specs.Language as l
use Rattle.grammar.specs.Language.{◌or◌}
use Rattle.grammar.proofs.KindSets.{both as parts}
use Rattle.hh_base.specs.declared.keyword.Keyword.{Keyword}
use Rattle.hh_base.specs.declared.keyword.Keyword.TheVariants as w
use Rattle.module_token.specs.declared.punct.Punct.TheVariants as punct
use Rattle.hh_base.specs.Keyword.{keyword_text}
use Rattle.expression_reader.specs.Trees.{Name, pos_at}
use Rattle.module_printer.specs.ExpressionTokens.{Lexemes, tokens_of_value}
use Rattle.module_printer.specs.SourceTokens.{if_there, comma_separated, token_of_kind, tokens_of_dir, tokens_of_type, tokens_of_first, tokens_of_combine, tokens_of_signal, tokens_of_interface, tokens_of_parameter, tokens_of_binding, tokens_of_handler}
use Rattle.expression_reader.specs.Rules as eg
use Rattle.module_reader.specs.Rules as g
use Rattle.expression_reader.specs.Rules.{Lang}
use Rattle.round_trip.specs.Places.{placeless_name, placeless_signal, placeless_interface, placeless_parameter, placeless_binding}
use Rattle.round_trip.proofs.lifting.Lifting.{Lifts, Same, lifts_then, lifts_made, lifts_left, lifts_right, lifts_pure, lifts_words, lifts_many}
use Rattle.round_trip.proofs.lifting.OneToken.{lifts_punct, lifts_keyword, lifts_name, lifts_quoted, lifts_number, lifts_plus, lifts_min, lifts_max, lifts_and, lifts_or}
use Rattle.round_trip.proofs.lifting.Expressions.{text_of}

-- it is this one
abbrev pub Is : {A : Type 0} → A → A → Type 0
Is b a = a ≡ b

-- ---- lists with commas

-- each has words that are a text of the language
abbrev pub Each : {A B : Type 0} → (A → B) → (A → Lexemes) → Lang A → List A → Type 0
Each f words item bs = AllByRecursion (λ b. Lifts (Same f b) item (words b)) bs

module _ {A B : Type 0} (f : A → B) (words : A → Lexemes) (item : Lang A) where
  behind_commas : (bs : List A) → Each f words item bs → AllByRecursion
      (λ b. Lifts (Same f b) (eg.behind_comma item) (codes "," ∷ words b)) bs
  behind_commas [] h = tt
  behind_commas (b ∷ bs) h = (lifts_then (lifts_punct punct.Comma) (λ n u. h.0), behind_commas bs h.1)

module _ {A B : Type 0} {f : A → B} (words : A → Lexemes) {item : Lang A} where
  pub lifts_listed : (b : A) (bs : List A) → Each f words item (b ∷ bs)
      → Lifts (Same (map f) (b ∷ bs)) (eg.listed item) (comma_separated (map words (b ∷ bs)))
  lifts_listed b bs h =
      lifts_then h.0 (λ a e. lifts_made (lifts_many words (λ ts. codes "," ∷ ts) bs
      (behind_commas f words item bs h.1)) (λ more k. λ i. e i ∷ k i))

  pub lifts_listed_or_none : (bs : List A) → Each f words item bs
      → Lifts (Same (map f) bs) (eg.listed_or_none item) (comma_separated (map words bs))
  lifts_listed_or_none [] h = lifts_right (lifts_pure refl)
  lifts_listed_or_none (b ∷ bs) h = lifts_left (lifts_listed b bs h)

module _ {A B : Type 0} (f : A → B) (words : A → Lexemes) (item : Lang A) (test : A → Bool) (h : (b : A)
    → test b ≡ true → Lifts (Same f b) item (words b)) where
  -- of a list whose items pass a test
  pub each_of : (bs : List A) → list_all test bs ≡ true → Each f words item bs
  each_of [] e = tt
  each_of (b ∷ bs) e = let q = parts (test b) (list_all test bs) e in (h b q.0, each_of bs q.1)

-- ---- names

pub named_lifts : (n : NameAt Name) → fits_name n ≡ true → Lifts (Same placeless_name n) eg.named
    (n.name ∷ [])
named_lifts n h = lifts_made (lifts_name n.name h) (λ a e. ap
    (λ (z : Name). let m : NameAt Name = record { pos = pos_at 0; name = z } in m) e)

-- ---- kinds

type_by_lifts : (word : Keyword) (k : Kind) → Lifts (Is k) (g.kind_by word k) (keyword_text word ∷ [])
type_by_lifts word k = lifts_made (lifts_keyword word) (λ n u. refl)

pub valued_lifts : (k : Kind) → is_valued k ≡ true → Lifts (Is k) g.valued (token_of_kind k ∷ [])
valued_lifts kind.Pure h = absurd (let no : ⊥ = cc in no)
valued_lifts kind.Int h = lifts_left (type_by_lifts w.Int kind.Int)
valued_lifts kind.Bool h = lifts_right (lifts_left (type_by_lifts w.Bool kind.Bool))
valued_lifts kind.Text h = lifts_right (lifts_right (type_by_lifts w.Text kind.Text))

pub type_lifts : (k : Kind) → Lifts (Is k) g.kind (token_of_kind k ∷ [])
type_lifts kind.Pure = lifts_left (type_by_lifts w.Pure kind.Pure)
type_lifts kind.Int = lifts_right (valued_lifts kind.Int refl)
type_lifts kind.Bool = lifts_right (valued_lifts kind.Bool refl)
type_lifts kind.Text = lifts_right (valued_lifts kind.Text refl)

colon_lifts : (k : Kind) → Lifts (Is k) g.behind_colon (codes ":" ∷ token_of_kind k ∷ [])
colon_lifts k = lifts_then (lifts_punct punct.Colon) (λ n u. type_lifts k)

-- a pure signal is written without its kind
kind_lifts : (k : Kind) → Lifts (Is k) (g.behind_colon or l.pure kind.Pure) (tokens_of_type k)
kind_lifts kind.Pure = lifts_right (lifts_pure refl)
kind_lifts kind.Int = lifts_left (colon_lifts kind.Int)
kind_lifts kind.Bool = lifts_left (colon_lifts kind.Bool)
kind_lifts kind.Text = lifts_left (colon_lifts kind.Text)

-- ---- values

literal_lifts : (v : Value) → is_written_value v ≡ true → Lifts (Is v) g.literal (tokens_of_value v)
literal_lifts value.Unit h = absurd (let no : ⊥ = cc in no)
literal_lifts (value.Bool true) h = lifts_left (lifts_made (lifts_keyword w.True) (λ n u. refl))
literal_lifts (value.Bool false) h = lifts_right (lifts_left
    (lifts_made (lifts_keyword w.False) (λ n u. refl)))
literal_lifts (value.Text t) h =
    lifts_right (lifts_right
    (lifts_left (lifts_made (lifts_quoted t (text_of t h)) (λ q e. ap (λ (z : List ℕ). value.Text z) e))))
literal_lifts (value.Int (pos n)) h =
    let small : n < 2 ^ 63 = ltb-true n (2 ^ 63) h in
    lifts_right (lifts_right
    (lifts_right (lifts_left
    (lifts_made (lifts_number 0 eg.largest n (omega arith) (omega (arith, small)) (omega (arith, small)))
    (λ q e. ap (λ (z : ℕ). value.Int (pos z)) e)))))
literal_lifts (value.Int (negsuc n)) h =
    let small : n < 2 ^ 63 = ltb-true n (2 ^ 63) h in
    lifts_right (lifts_right (lifts_right (lifts_right
    (lifts_then (lifts_punct punct.Minus)
    (λ m u. lifts_made (lifts_number 0 (2 ^ 63) (suc n) (omega arith) (omega (arith, small))
    (omega (arith, small))) (λ q e. ap (λ (z : ℕ). value.Int (neg_ℤ (pos z))) e))))))

first_lifts : (v : Option Value) → tests.if_there is_written_value v ≡ true
    → Lifts (Is v) (eg.optional g.behind_equal) (if_there tokens_of_first v)
first_lifts None h = lifts_right (lifts_pure refl)
first_lifts (Some v) h =
    lifts_left (lifts_made (lifts_then (lifts_punct punct.Equal) (λ n u. literal_lifts v h))
    (λ a e. ap Some e))

word_lifts : (c : CombineWord) → Lifts (Is c) g.behind_combine (tokens_of_combine c)
word_lifts combine.Plus = lifts_then (lifts_keyword w.Combine)
    (λ n u. lifts_left (lifts_made lifts_plus (λ m v. refl)))
word_lifts combine.Min = lifts_then (lifts_keyword w.Combine)
    (λ n u. lifts_right (lifts_left (lifts_made lifts_min (λ m v. refl))))
word_lifts combine.Max = lifts_then (lifts_keyword w.Combine)
    (λ n u. lifts_right (lifts_right (lifts_left (lifts_made lifts_max (λ m v. refl)))))
word_lifts combine.And = lifts_then (lifts_keyword w.Combine)
    (λ n u. lifts_right (lifts_right (lifts_right (lifts_left (lifts_made lifts_and (λ m v. refl))))))
word_lifts combine.Or = lifts_then (lifts_keyword w.Combine)
    (λ n u. lifts_right (lifts_right (lifts_right (lifts_right (lifts_made lifts_or (λ m v. refl))))))

combine_lifts : (c : Option CombineWord) → Lifts (Is c) (eg.optional g.behind_combine)
    (if_there tokens_of_combine c)
combine_lifts None = lifts_right (lifts_pure refl)
combine_lifts (Some c) = lifts_left (lifts_made (word_lifts c) (λ a e. ap Some e))

-- ---- signals

made_sig : Name → Kind → Option Value → Option CombineWord → SignalNode
made_sig n k v c = record { pos = pos_at 0; name = n; kind = k; first = v; combine = c }

pub sig_lifts : (s : SignalNode) → fits_signal s ≡ true → Lifts (Same placeless_signal s) g.signal
    (tokens_of_signal s)
unfolding made_sig
sig_lifts s h =
    let q = parts (is_written_name s.name) _ h in
    lifts_words (ap (λ ts. s.name ∷ ts)
    (sym (append_assoc (tokens_of_type s.kind) (if_there tokens_of_first s.first)
    (if_there tokens_of_combine s.combine))))
    (lifts_then (lifts_name s.name q.0)
    (λ n e. lifts_then (kind_lifts s.kind)
    (λ k d. lifts_then (first_lifts s.first q.1)
    (λ v f. lifts_made (combine_lifts s.combine)
    (λ c j. λ i. made_sig (e i) (d i) (f i) (j i))))))

direction_lifts : (d : Dir) → is_interface d ≡ true → Lifts (Is d) g.direction (tokens_of_dir d)
direction_lifts dir.Input h = lifts_left (lifts_made (lifts_keyword w.In) (λ n u. refl))
direction_lifts dir.Output h = lifts_right (lifts_left (lifts_made (lifts_keyword w.Out) (λ n u. refl)))
direction_lifts dir.Both h = lifts_right (lifts_right (lifts_made (lifts_keyword w.Inout) (λ n u. refl)))
direction_lifts dir.Local h = absurd (let no : ⊥ = cc in no)

made_decl : Dir → SignalNode → InterfaceNode
made_decl d s = record { dir = d; signal = s }

pub decl_lifts : (d : InterfaceNode) → fits_interface d ≡ true
    → Lifts (Same placeless_interface d) g.interface (tokens_of_interface d)
unfolding made_decl
decl_lifts d h =
    let q = parts (is_interface d.dir) _ h in
    lifts_then (direction_lifts d.dir q.0) (λ z e. lifts_made (sig_lifts d.signal q.1)
    (λ s k. λ i. made_decl (e i) (k i)))

made_param : Name → Kind → ParameterNode
made_param n k = record { pos = pos_at 0; name = n; kind = k }

pub param_lifts : (p : ParameterNode) → fits_parameter p ≡ true
    → Lifts (Same placeless_parameter p) g.parameter (tokens_of_parameter p)
unfolding made_param
param_lifts p h =
    let q = parts (is_written_name p.name) _ h in
    lifts_then (lifts_name p.name q.0) (λ n e. lifts_then (lifts_punct punct.Colon)
    (λ z u. lifts_made (valued_lifts p.kind q.1) (λ k d. λ i. made_param (e i) (d i))))

made_binding : NameAt Name → NameAt Name → Binding Name
made_binding a b = record { left = a; right = b }

pub binding_lifts : (b : Binding Name) → fits_binding b ≡ true
    → Lifts (Same placeless_binding b) g.binding (tokens_of_binding b)
unfolding made_binding
binding_lifts b h =
    let q = parts (fits_name b.left) _ h in
    lifts_then (named_lifts b.left q.0) (λ n e. lifts_then (lifts_punct punct.Equal)
    (λ z u. lifts_made (named_lifts b.right q.1) (λ m d. λ i. made_binding (e i) (d i))))

pub handler_lifts : (word : Keyword) (z : Option Name) → tests.if_there is_written_text z ≡ true
    → Lifts (Is z) (eg.optional (g.handler word)) (tokens_of_handler (keyword_text word) z)
handler_lifts word None h = lifts_right (lifts_pure refl)
handler_lifts word (Some z) h =
    lifts_left (lifts_made
    (lifts_then (lifts_keyword word) (λ n u. lifts_made {Q = Is z} (lifts_quoted z (text_of z h)) (λ q e. e)))
    (λ a e. ap Some e))
