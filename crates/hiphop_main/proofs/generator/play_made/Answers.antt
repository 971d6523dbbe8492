use Rattle.std.proofs.Common.{◌≡◌, ◌∙◌, ℕ, List, [], length, ap, arith, refl, subst, sym}
use Rattle.host_hooks.specs.Stored.{promises_of}
use Rattle.scenario_make.specs.Make.{made}
use Rattle.hiphop_main.specs.Gen.{lacks_memory, refuses, sums_up}
use Rattle.hiphop_main.specs.Play.{IsLogText, IsRefusedInput}
use Rattle.hiphop_main.proofs.Gens.{log_in_memory, refused_in_memory}
use Rattle.hiphop_main.proofs.generator.play_made.Goals as goal

pub play_input-requires : goal.play_input-requires
play_input-requires g c =
    let few = c.in-Ok.ensures.few in
    let small = c.requires in
    let size = ap length c.deref.ensures.value in
    omega arith

pub returns-in_default : goal.returns-in_default
returns-in_default g c = lacks_memory refl

pub returns-in-NoMemory : goal.returns-in-NoMemory
returns-in-NoMemory g c = lacks_memory refl

pub returns-in-Fine : goal.returns-in-Fine
returns-in-Fine g c =
    let hooks = promises_of c.args.hooks.now in
    let input : c.deref.result.now ≡ made c.args.order.seed c.args.order.size = c.deref.ensures.value ∙ c.in-Ok.ensures.made in
    let log : IsLogText hooks c.deref.result.now c.play_input.new.sink [] =
    log_in_memory hooks c.deref.result.now c.new-log.result c.play_input.new.sink c.play_input.result c.new-log.ensures c.play_input.ensures
    c.in-Fine.is in
    sums_up (subst (λ (i : List ℕ). IsLogText hooks i c.as_bytes.result.now []) input
    (subst (λ (t : List ℕ). IsLogText hooks c.deref.result.now t []) (sym c.as_bytes.ensures) log)) c.write_summary.ensures

pub returns : goal.returns
returns g c =
    let hooks = promises_of c.args.hooks.now in
    let input : c.deref.result.now ≡ made c.args.order.seed c.args.order.size = c.deref.ensures.value ∙ c.in-Ok.ensures.made in
    let refused : IsRefusedInput hooks c.deref.result.now c.play_input.result =
    refused_in_memory hooks c.deref.result.now c.new-log.result c.play_input.new.sink c.play_input.result c.play_input.ensures
    c.in_default-play_input.not-Fine c.in_default-play_input.not-NoMemory in
    refuses (subst (λ (i : List ℕ). IsRefusedInput hooks i c.play_input.result) input refused) c.refuse.ensures
