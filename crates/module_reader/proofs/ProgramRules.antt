-- Each rule of bodies, hosts and modules is read as its language, and so are texts of them. The brackets of a
-- declaration take one of those that may be opened.
use Rattle.std.proofs.Common.{ℕ, suc, true, false, refl}
use Rattle.hh_base.specs.declared.keyword.Keyword.TheVariants as w
use Rattle.module_token.specs.declared.punct.Punct.TheVariants as k
use Rattle.module_tree.specs.declared.source.Part.TheVariants as top
use Rattle.grammar.specs.Tokens.{never}
use Rattle.grammar.proofs.Sequences.{good_seq, good_then, good_pure}
use Rattle.grammar.proofs.OneToken.{good_open, good_close}
use Rattle.grammar.proofs.Choices.{good_or, good_list}
use Rattle.grammar.proofs.Nesting.{deeper}
use Rattle.expression_reader.specs.declared.terminal.Terminal.TheVariants as t
use Rattle.expression_reader.specs.Terminals.{is_keyword}
use Rattle.expression_reader.specs.Trees.{pos_at}
use Rattle.module_reader.specs.Rules as g
use Rattle.module_reader.specs.Reference as p
use Rattle.module_reader.specs.Reference.{begins_part}
use Rattle.expression_reader.proofs.TokenRules.{Out, good_keyword, good_punct, good_name}
use Rattle.expression_reader.proofs.PartRules.{good_listed_or_none, good_in_curly}
use Rattle.expression_reader.proofs.ExpressionRules.{good_outermost, sample_outermost}
use Rattle.module_reader.proofs.DeclarationRules.{good_valued, good_kind, good_interface, good_parameter}
use Rattle.module_reader.proofs.StatementRules.{good_block}

module _ (n x : ℕ) where
  good_body : Out x (suc n) (p.body (suc n)) (g.body (deeper (suc n) x)) false (is_keyword w.Body) never
  unfolding p.body
  good_body = good_then (good_keyword w.Body) (λ b. good_then good_name
      (λ m. good_then (good_open (t.Punct k.LeftParen) refl)
      (λ o. good_seq (good_listed_or_none good_parameter refl refl refl)
      (λ ps. good_then (good_close (t.Punct k.RightParen) refl)
      (λ c. good_then (good_punct k.Colon refl) (λ c. good_then good_valued
      (λ y. good_then (good_in_curly (suc n) x sample_outermost (λ left. good_outermost left x) refl)
      (λ a. good_pure (top.Body (record {
        pos = pos_at m.0;
        name = m.1;
        parameters = ps;
        answer = y;
        expr = a;
      })) never) refl) refl) refl) refl) refl) refl) refl) refl

  good_host : Out x (suc n) p.host g.host false (is_keyword w.Host) never
  unfolding p.host
  good_host = good_then (good_keyword w.Host) (λ h. good_then good_name
      (λ m. good_then (good_open (t.Punct k.LeftParen) refl)
      (λ o. good_seq (good_listed_or_none good_valued refl refl refl)
      (λ ks. good_then (good_close (t.Punct k.RightParen) refl)
      (λ c. good_then (good_punct k.Colon refl) (λ c. good_then good_kind
      (λ y. good_then (good_punct k.Semicolon refl)
      (λ c. good_pure (top.Host (record {
        pos = pos_at m.0;
        token = pos_at h;
        name = m.1;
        parameters = ks;
        answer = y;
      })) never) refl) refl) refl) refl) refl) refl) refl) refl

  pub good_module_of : Out x (suc n) (p.module_of (suc n)) (g.module_of (deeper (suc n) x)) false
      (is_keyword w.Module) never
  unfolding p.module_of
  good_module_of = good_then (good_keyword w.Module) (λ b. good_then good_name
      (λ m. good_then (good_open (t.Punct k.LeftParen) refl)
      (λ o. good_seq (good_listed_or_none good_interface refl refl refl)
      (λ ds. good_then (good_close (t.Punct k.RightParen) refl)
      (λ c. good_then (good_block (suc n) x) (λ b. good_pure
      (top.Module (record { pos = pos_at m.0; name = m.1; interface = ds; block = b })) never) refl) refl)
      refl) refl) refl) refl

  pub good_part : Out x (suc n) (p.part (suc n)) (g.part (deeper (suc n) x)) false begins_part never
  unfolding p.part
  good_part = good_or (is_keyword w.Body) never good_body (good_or
      (is_keyword w.Host) never good_host good_module_of refl) refl

  pub good_parts : Out x (suc n) (p.parts (suc n)) (g.parts (deeper (suc n) x)) true begins_part begins_part
  unfolding p.parts
  good_parts = good_list begins_part begins_part good_part refl
