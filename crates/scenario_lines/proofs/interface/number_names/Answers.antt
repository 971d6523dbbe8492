use Rattle.std.proofs.Common.{◌≡◌, Some, length, refl, sym}
use Rattle.std.specs.Prelude.{slice_get}
use Rattle.std.proofs.lemmas.Option.{slice_get_read}
use Rattle.scenario_lines.proofs.Numbering.{keeps, adds, all_words, whole}
use Rattle.scenario_lines.proofs.interface.number_names.Goals as goal
use Rattle.scenario_lines.proofs.interface.number_names.Goals.{in-Some+in_ok-insert, in_default}

pub loop-number-preserved : goal.loop-number-preserved
loop-number-preserved c =
    let signals = c.args.signals.now in
    let d = c.index-signals-number.result in
    let here : slice_get signals c.loop-number.number ≡ Some d =
    slice_get_read signals (length signals) c.loop-number.number d refl c.loop-number-test.true
    c.index-signals-number.is in
    elim c.match-given_name.branch [
      | in-Some+in_ok-insert w ↦ rw w.numbers-is (adds signals c.loop-number.numbers w.insert.new.self
          c.loop-number.number d w.in-Some.name.now here (sym w.in-Some.ensures.name) w.in-Some.ensures.word
          w.in_ok-insert.ensures.updates c.loop-number.invariant)
      | in_default w ↦ rw w.numbers-is (keeps signals c.loop-number.numbers c.loop-number.number d here
          (sym w.in_default.ensures.name) c.loop-number.invariant)
    ]

pub returns-clause-words : goal.returns-clause-words
returns-clause-words c =
    all_words c.args.signals.now c.loop-number.numbers c.loop-number.number c.requires c.loop-number-test.false
    c.loop-number.invariant

pub returns-clause-index : goal.returns-clause-index
returns-clause-index c =
    whole c.args.signals.now c.loop-number.numbers c.loop-number.number c.loop-number-test.false
    c.loop-number.invariant
