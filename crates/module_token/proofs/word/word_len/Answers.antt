use Rattle.std.proofs.Common.{length, sym, ap, ◌∙◌}
use Rattle.std.specs.Str.Iter.{chars_rest}
use Rattle.std.proofs.lemmas.Str.{IsCharBoundary-from_drop}
use Rattle.module_token.proofs.Walk.{past, past_utf8, past_within, goes_on, stops, ends}
use Rattle.module_token.proofs.word.word_len.Goals as goal

pub loop-letter-preserved : goal.loop-letter-preserved
loop-letter-preserved c =
    let at = c.loop-letter.invariant in
    let e = at.rest ∙ c.in-Some.ensures.steps.0 in
    let next = chars_rest c.next.new.self in
    let continues = sym c.is_xid_continue.ensures.value ∙ c.if-not-is_xid_continue.false in
    rw c.len_utf8-len.ensures.value (record {
      can = tt;
      finite = tt;
      rest = past c.args.text.now next c.loop-letter.len c.in-Some.letter at.utf8 e;
      within = past_within c.args.text.now next c.loop-letter.len c.in-Some.letter at.utf8 e at.within;
      utf8 = past_utf8 c.args.text.now next c.loop-letter.len c.in-Some.letter at.utf8 e;
      total = goes_on c.args.text.now next c.loop-letter.len c.in-Some.letter at.utf8 e continues at.total;
    })

pub returns-in-None-clause-value : goal.returns-in-None-clause-value
returns-in-None-clause-value c = ends c.args.text.now c.loop-letter.len
    (ap length c.loop-letter.invariant.rest ∙ c.in-None.ensures.steps.0.0) c.loop-letter.invariant.total

pub returns-then-not-is_xid_continue-clause-value : goal.returns-then-not-is_xid_continue-clause-value
returns-then-not-is_xid_continue-clause-value c =
    let at = c.loop-letter.invariant in
    stops c.args.text.now (chars_rest c.next.new.self) c.loop-letter.len c.in-Some.letter at.utf8
    (at.rest ∙ c.in-Some.ensures.steps.0) (sym c.is_xid_continue.ensures.value
    ∙ c.if-not-is_xid_continue.true) at.total

pub returns-then-not-is_xid_continue-clause-cut : goal.returns-then-not-is_xid_continue-clause-cut
returns-then-not-is_xid_continue-clause-cut c = IsCharBoundary-from_drop c.args.text.now c.loop-letter.len
    c.loop-letter.invariant.within c.loop-letter.invariant.utf8
