use Rattle.std.proofs.Common.{arith, ◌≡◌, ◌∙◌, ℕ, sym}
use Rattle.hh_base.specs.Keyword.{keyword_of}
use Rattle.hh_base.proofs.Keywords.{of_length, no_length}
use Rattle.hh_base.proofs.keyword.keyword_of.Goals as goal

pub returns-in-2 : goal.returns-in-2
returns-in-2 c = c.keyword_among.ensures ∙ of_length c.args.word.now 2 c.in-2.is

pub returns-in-3 : goal.returns-in-3
returns-in-3 c = c.keyword_among-in-3.ensures ∙ of_length c.args.word.now 3 c.in-3.is

pub returns-in-4 : goal.returns-in-4
returns-in-4 c = c.keyword_among-in-4.ensures ∙ of_length c.args.word.now 4 c.in-4.is

pub returns-in-5 : goal.returns-in-5
returns-in-5 c = c.keyword_among-in-5.ensures ∙ of_length c.args.word.now 5 c.in-5.is

pub returns-in-6 : goal.returns-in-6
returns-in-6 c = c.keyword_among-in-6.ensures ∙ of_length c.args.word.now 6 c.in-6.is

pub returns-in-7 : goal.returns-in-7
returns-in-7 c = c.keyword_among-in-7.ensures ∙ of_length c.args.word.now 7 c.in-7.is

pub returns-in-9 : goal.returns-in-9
returns-in-9 c = c.keyword_among-in-9.ensures ∙ of_length c.args.word.now 9 c.in-9.is

pub returns-in_default : goal.returns-in_default
returns-in_default c = sym (no_length c.args.word.now (λ e. omega (arith, c)) (λ e. omega (arith, c))
    (λ e. omega (arith, c)) (λ e. omega (arith, c)) (λ e. omega (arith, c)) (λ e. omega (arith, c))
    (λ e. omega (arith, c)))
