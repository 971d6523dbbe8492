-- Each rule of declarations is read as its language.
use Rattle.std.proofs.Common.{◌≡◌, ℕ, ◌^◌, pos, neg_ℤ, Bool, true, false, refl}
use Rattle.std.specs.Prelude.{◌||◌}
use Rattle.hh_base.specs.declared.value.Kind.{Kind}
use Rattle.hh_base.specs.declared.value.Kind.TheVariants as kind
use Rattle.hh_base.specs.declared.value.Value.TheVariants as value
use Rattle.hh_base.specs.declared.value.CombineWord.{CombineWord}
use Rattle.hh_base.specs.declared.value.CombineWord.TheVariants as combine
use Rattle.hh_base.specs.declared.keyword.Keyword.{Keyword}
use Rattle.hh_base.specs.declared.keyword.Keyword.TheVariants as w
use Rattle.module_token.specs.declared.punct.Punct.TheVariants as k
use Rattle.hh_base.specs.declared.value.Dir.{Dir}
use Rattle.hh_base.specs.declared.value.Dir.TheVariants as dir
use Rattle.grammar.specs.Tokens.{is, is_plain, never}
use Rattle.grammar.specs.Fault.{Unexpected}
use Rattle.grammar.specs.Language as l
use Rattle.grammar.proofs.Bundle.{Level}
use Rattle.grammar.proofs.Sequences.{good_seq, good_then, good_pure}
use Rattle.grammar.proofs.OneToken.{good_take}
use Rattle.grammar.proofs.Choices.{good_or}
use Rattle.grammar.proofs.Combined.{good_made}
use Rattle.expression_reader.specs.declared.terminal.Terminal.{Terminal}
use Rattle.expression_reader.specs.declared.terminal.Terminal.TheVariants as t
use Rattle.expression_reader.specs.Terminals.{symbols, is_name, is_keyword, is_punct}
use Rattle.expression_reader.specs.Trees.{pos_at}
use Rattle.expression_reader.specs.Rules as eg
use Rattle.module_reader.specs.Rules as g
use Rattle.expression_reader.specs.Rules.{is_quoted, is_number, largest}
use Rattle.module_reader.specs.Reference as p
use Rattle.expression_reader.proofs.TokenRules.{Rule, good_keyword, good_punct, good_name, good_quoted}
use Rattle.expression_reader.proofs.TokenRules.{good_number}
use Rattle.expression_reader.proofs.PartRules.{good_optional}

abbrev pub begins_valued : Terminal → Bool
begins_valued a = is_keyword w.Int a || (is_keyword w.Bool a || is_keyword w.Text a)

abbrev pub begins_type : Terminal → Bool
begins_type a = is_keyword w.Pure a || begins_valued a

abbrev begins_literal : Terminal → Bool
begins_literal a = is_keyword w.True a || (is_keyword w.False a
    || (is_quoted a || (is_number a || is_punct k.Minus a)))

abbrev begins_combination : Terminal → Bool
begins_combination a = is symbols t.Plus a || (is symbols t.Min a
    || (is symbols t.Max a || (is symbols t.And a || is symbols t.Or a)))

abbrev pub begins_declaration : Terminal → Bool
begins_declaration a = is_keyword w.In a || (is_keyword w.Out a || is_keyword w.Inout a)

-- what may not stand behind a signal, by what it may end with
abbrev pub behind_signal : Terminal → Bool
behind_signal a = is_punct k.Colon a || (is_punct k.Equal a || is_keyword w.Combine a)

module _ {v : Level} {x n : ℕ} where
  good_kind_by : (word : Keyword) (what : Kind) → Rule v x n (p.kind_by word what) (g.kind_by word what) false
      (is_keyword word) never
  good_kind_by word what = good_made (λ m. what) (good_keyword word)

  pub good_valued : Rule v x n p.valued g.valued false begins_valued never
  unfolding p.valued
  good_valued = good_or (is_keyword w.Int) never (good_kind_by w.Int kind.Int)
      (good_or (is_keyword w.Bool) never (good_kind_by w.Bool kind.Bool) (good_kind_by w.Text kind.Text) refl)
      refl

  pub good_kind : Rule v x n p.kind g.kind false begins_type never
  unfolding p.kind
  good_kind = good_or (is_keyword w.Pure) never (good_kind_by w.Pure kind.Pure) good_valued refl

  good_literal_by : (word : Keyword) (b : Bool) → Rule v x n (p.literal_by word b) (g.literal_by word b) false
      (is_keyword word) never
  good_literal_by word b = good_made (λ m. value.Bool b) (good_keyword word)

  good_literal_text : Rule v x n p.literal_text g.literal_text false is_quoted never
  unfolding p.literal_text
  good_literal_text = good_made (λ q. value.Text q.1) good_quoted

  good_literal_number : Rule v x n p.literal_number g.literal_number false is_number never
  unfolding p.literal_number
  good_literal_number = good_made (λ m. value.Int (pos m.1)) (good_number 0 largest Unexpected tt refl)

  good_literal_negative : Rule v x n p.literal_negative g.literal_negative false (is_punct k.Minus) never
  unfolding p.literal_negative
  good_literal_negative = good_then (good_punct k.Minus refl)
      (λ m. good_made (λ m. value.Int (neg_ℤ (pos m.1))) (good_number 0 (2 ^ 63) Unexpected tt refl)) refl

  good_literal : Rule v x n p.literal g.literal false begins_literal never
  unfolding p.literal
  good_literal = good_or (is_keyword w.True) never (good_literal_by w.True true)
      (good_or (is_keyword w.False) never (good_literal_by w.False false)
      (good_or is_quoted never good_literal_text (good_or is_number never good_literal_number
      good_literal_negative refl) refl) refl) refl

  good_kind_of_signal : Rule v x n p.kind_of_signal (l.◌or◌ g.behind_colon (l.pure kind.Pure)) true
      (λ a. is_punct k.Colon a || never a) (is_punct k.Colon)
  unfolding p.kind_of_signal
  good_kind_of_signal = good_or (is_punct k.Colon) (is_punct k.Colon)
      (good_then (good_punct k.Colon refl) (λ m. good_kind) refl)
      (good_pure kind.Pure (is_punct k.Colon)) refl

  good_first_value : Rule v x n p.first_value (eg.optional g.behind_equal) true
      (λ a. is_punct k.Equal a || never a) (is_punct k.Equal)
  unfolding p.first_value
  good_first_value = good_optional (is_punct k.Equal) (is_punct k.Equal)
      (good_then (good_punct k.Equal refl) (λ m. good_literal) refl) refl

  good_combine_by : (a : Terminal) (word : CombineWord) → is_plain symbols a ≡ true
      → Rule v x n (p.combine_by a word) (g.combine_by a word) false (is symbols a) never
  good_combine_by a word plain = good_made (λ m. word) (good_take a plain)

  good_combine_word : Rule v x n p.combine_word g.combine_word false begins_combination never
  unfolding p.combine_word
  good_combine_word = good_or (is symbols t.Plus) never (good_combine_by t.Plus combine.Plus refl)
      (good_or (is symbols t.Min) never (good_combine_by t.Min combine.Min refl)
      (good_or (is symbols t.Max) never (good_combine_by t.Max combine.Max refl)
      (good_or (is symbols t.And) never (good_combine_by t.And combine.And refl)
      (good_combine_by t.Or combine.Or refl) refl) refl) refl) refl

  good_combining : Rule v x n p.combining (eg.optional g.behind_combine) true
      (λ a. is_keyword w.Combine a || never a) (is_keyword w.Combine)
  unfolding p.combining
  good_combining = good_optional (is_keyword w.Combine) (is_keyword w.Combine)
      (good_then (good_keyword w.Combine) (λ m. good_combine_word) refl) refl

  pub good_signal : Rule v x n p.signal g.signal false is_name behind_signal
  unfolding p.signal
  good_signal = good_then good_name (λ m. good_seq good_kind_of_signal
      (λ y. good_seq good_first_value (λ f. good_seq good_combining
      (λ c. good_pure (record { pos = pos_at m.0; name = m.1; kind = y; first = f; combine = c })
      behind_signal) refl) refl) refl) refl

  good_dir_by : (word : Keyword) (what : Dir) → Rule v x n (p.dir_by word what) (g.dir_by word what) false
      (is_keyword word) never
  good_dir_by word what = good_made (λ m. what) (good_keyword word)

  good_direction : Rule v x n p.direction g.direction false begins_declaration never
  unfolding p.direction
  good_direction = good_or (is_keyword w.In) never (good_dir_by w.In dir.Input)
      (good_or (is_keyword w.Out) never (good_dir_by w.Out dir.Output) (good_dir_by w.Inout dir.Both) refl)
      refl

  pub good_interface : Rule v x n p.interface g.interface false begins_declaration behind_signal
  unfolding p.interface
  good_interface = good_then good_direction (λ d. good_then good_signal
      (λ s. good_pure (record { dir = d; signal = s }) behind_signal) refl) refl

  pub good_parameter : Rule v x n p.parameter g.parameter false is_name never
  unfolding p.parameter
  good_parameter = good_then good_name (λ m. good_then (good_punct k.Colon refl)
      (λ c. good_then good_valued (λ y. good_pure (record { pos = pos_at m.0; name = m.1; kind = y }) never)
      refl) refl) refl
