use Rattle.std.proofs.Common.{◌≡◌, ℕ, ◌<◌, Some, false, true, length, set, slice_get, reverse, sym, ◌∙◌}
use Rattle.std.proofs.Common.{subst, arith}
use Rattle.std.proofs.lemmas.Option.{get_or_from_slice_get}
use Rattle.run_graph.specs.Reach.{callees}
use Rattle.run_graph.specs.Work.{work_left}
use Rattle.run_graph.specs.Search.{IsSearch}
use Rattle.run_graph.proofs.SearchRuns.{within, read_at, in_range_seen, next_within, stay_set, step_finishes}
use Rattle.run_graph.proofs.SearchRuns.{step_follows, step_opens}
use Rattle.run_graph.proofs.WorkLemmas.{followed_work, opened_work}
use Rattle.run_graph.proofs.search.Search.step.Goals as goal

pub returns-in_default-next_run-clause-search : goal.returns-in_default-next_run-clause-search
returns-in_default-next_run-clause-search c =
    step_finishes c.args.runs.now c.args.self.now.seen.items c.args.self.now.path c.pop.new.self
    c.in-Some.frame c.args.self.now.finished c.push.new.self
    c.requires.search c.in-Some.ensures (sym c.next_run.ensures.run ∙ c.in_default-next_run.is)
    c.in_ok-push.ensures.ok

pub index-requires : goal.index-requires
index-requires c =
    let l : c.in-Some-next_run.callee < length c.args.self.now.seen.items =
    in_range_seen c.args.runs.now c.args.self.now.seen.items c.in-Some-next_run.callee
    c.requires.search.size
    (within c.args.runs.now c.in-Some.frame.at c.in-Some.frame.next c.in-Some-next_run.callee
    c.requires.in_range (sym c.in-Some-next_run.ensures.run)) in
    omega arith

pub open-requires : goal.open-requires
open-requires c =
    let l : c.in-Some-next_run.callee < length c.args.self.now.seen.items =
    in_range_seen c.args.runs.now c.args.self.now.seen.items c.in-Some-next_run.callee
    c.requires.search.size
    (within c.args.runs.now c.in-Some.frame.at c.in-Some.frame.next c.in-Some-next_run.callee
    c.requires.in_range (sym c.in-Some-next_run.ensures.run)) in
    read_at c.args.self.now.seen.items c.in-Some-next_run.callee c.index.result.now false l c.index.ensures
    c.if-not-index.true

pub returns-in_ok-open-clause-search : goal.returns-in_ok-open-clause-search
returns-in_ok-open-clause-search c =
    let l : c.in-Some-next_run.callee < length c.args.self.now.seen.items =
    in_range_seen c.args.runs.now c.args.self.now.seen.items c.in-Some-next_run.callee
    c.requires.search.size
    (within c.args.runs.now c.in-Some.frame.at c.in-Some.frame.next c.in-Some-next_run.callee
    c.requires.in_range (sym c.in-Some-next_run.ensures.run)) in
    let fresh : slice_get c.args.self.now.seen.items c.in-Some-next_run.callee ≡ Some false =
    read_at c.args.self.now.seen.items c.in-Some-next_run.callee c.index.result.now false l
    c.index.ensures c.if-not-index.true in
    let s : IsSearch c.args.runs.now (set c.args.self.now.seen.items c.in-Some-next_run.callee true)
    (reverse c.open.new.self.path) (reverse c.args.self.now.finished) =
    step_opens c.args.runs.now c.args.self.now.seen.items c.args.self.now.path c.pop.new.self
    c.push-2.new.self c.open.new.self.path c.in-Some.frame (reverse c.args.self.now.finished)
    c.in-Some-next_run.callee
    c.requires.in_range c.requires.search c.in-Some.ensures (sym c.in-Some-next_run.ensures.run)
    (get_or_from_slice_get c.args.self.now.seen.items c.in-Some-next_run.callee false false fresh)
    c.in_ok-push-2.ensures.ok c.in_ok-open.ensures.path in
    rw (c.in_ok-open.ensures.seen, c.in_ok-open.ensures.finished) s

pub returns-in_ok-open-clause-kept : goal.returns-in_ok-open-clause-kept
returns-in_ok-open-clause-kept c m h = rw c.in_ok-open.ensures.seen
    (stay_set c.args.self.now.seen.items c.in-Some-next_run.callee m h)

pub returns-in_ok-open-clause-less : goal.returns-in_ok-open-clause-less
returns-in_ok-open-clause-less c e =
    let l : c.in-Some-next_run.callee < length c.args.self.now.seen.items =
    in_range_seen c.args.runs.now c.args.self.now.seen.items c.in-Some-next_run.callee
    c.requires.search.size
    (within c.args.runs.now c.in-Some.frame.at c.in-Some.frame.next c.in-Some-next_run.callee
    c.requires.in_range (sym c.in-Some-next_run.ensures.run)) in
    let fresh : slice_get c.args.self.now.seen.items c.in-Some-next_run.callee ≡ Some false =
    read_at c.args.self.now.seen.items c.in-Some-next_run.callee c.index.result.now false l
    c.index.ensures c.if-not-index.true in
    let first : work_left c.args.runs.now c.args.self.now.seen.items c.push-2.new.self < work_left
    c.args.runs.now c.args.self.now.seen.items c.args.self.now.path =
    rw (c.in_ok-push-2.ensures.ok, c.in-Some.ensures)
    (followed_work c.args.runs.now c.args.self.now.seen.items c.pop.new.self c.in-Some.frame
    (next_within (callees c.args.runs.now c.in-Some.frame.at) c.in-Some.frame.next
    c.in-Some-next_run.callee (sym c.in-Some-next_run.ensures.run))) in
    let then : work_left c.args.runs.now c.open.new.self.seen.items c.open.new.self.path ≡ work_left
    c.args.runs.now c.args.self.now.seen.items c.push-2.new.self =
    rw (c.in_ok-open.ensures.seen, c.in_ok-open.ensures.path)
    (opened_work c.args.runs.now c.args.self.now.seen.items c.push-2.new.self c.in-Some-next_run.callee
    c.requires.search.size fresh) in
    subst (λ (k : ℕ). k < work_left c.args.runs.now c.args.self.now.seen.items c.args.self.now.path)
    (sym then) first

pub returns-else-not-index-clause-search : goal.returns-else-not-index-clause-search
returns-else-not-index-clause-search c =
    let l : c.in-Some-next_run.callee < length c.args.self.now.seen.items =
    in_range_seen c.args.runs.now c.args.self.now.seen.items c.in-Some-next_run.callee
    c.requires.search.size
    (within c.args.runs.now c.in-Some.frame.at c.in-Some.frame.next c.in-Some-next_run.callee
    c.requires.in_range (sym c.in-Some-next_run.ensures.run)) in
    let met : slice_get c.args.self.now.seen.items c.in-Some-next_run.callee ≡ Some true =
    read_at c.args.self.now.seen.items c.in-Some-next_run.callee c.index.result.now true l
    c.index.ensures c.if-not-index.false in
    step_follows c.args.runs.now c.args.self.now.seen.items c.args.self.now.path c.pop.new.self
    c.push-2.new.self c.in-Some.frame (reverse c.args.self.now.finished) c.in-Some-next_run.callee
    c.requires.in_range c.requires.search c.in-Some.ensures (sym c.in-Some-next_run.ensures.run)
    (get_or_from_slice_get c.args.self.now.seen.items c.in-Some-next_run.callee true false met)
    c.in_ok-push-2.ensures.ok

pub returns-else-not-index-clause-less : goal.returns-else-not-index-clause-less
returns-else-not-index-clause-less c e =
    rw (c.in_ok-push-2.ensures.ok, c.in-Some.ensures)
    (followed_work c.args.runs.now c.args.self.now.seen.items c.pop.new.self c.in-Some.frame
    (next_within (callees c.args.runs.now c.in-Some.frame.at) c.in-Some.frame.next
    c.in-Some-next_run.callee (sym c.in-Some-next_run.ensures.run)))
