-- The nets of `module M(out O) { pause; emit O; }` keep the rules of nets.
use Rattle.std.specs.Prelude.{ℕ, true, false, Some, None, List, [], ◌∷◌, codes}
use Rattle.std.proofs.Common.{refl, arith, inr}
use Rattle.hh_base.specs.declared.value.Dir.TheVariants as dir
use Rattle.hh_base.specs.declared.value.Kind.TheVariants as kind
use Rattle.hh_base.specs.declared.value.Value.TheVariants as value
use Rattle.net_list.specs.declared.gate.NetGate.{NetGate}
use Rattle.net_list.specs.declared.gate.NetGate.TheVariants as gate
use Rattle.net_list.specs.declared.record.Sent.TheVariants as sent
use Rattle.net_list.specs.declared.record.NetSignal.{NetSignal}
use Rattle.net_list.specs.declared.record.NetRecords.{NetRecords}
use Rattle.net_list.specs.Form.{HasForm}
use Rattle.net_list.specs.IsNets.{IsNets}

abbrev pub output : NetSignal
output =
    record {
      decl =
          record {
            name = Some (codes "O");
            dir = dir.Output;
            kind = kind.Pure;
            first = value.Unit;
            combine = None;
            pos = record { 0 = 13 };
          };
      status = 4;
      pre = 5;
      sel = 1;
    }

abbrev pub gates : List NetGate
gates =
    gate.Zero ∷ gate.One ∷ gate.Reg 0 ∷ gate.Not 2 ∷ gate.Or (7 ∷ []) ∷ gate.Reg 1 ∷ gate.Reg 2
    ∷ gate.And (6 ∷ 3 ∷ []) ∷ gate.And (6 ∷ 0 ∷ []) ∷ gate.Or (2 ∷ 8 ∷ []) ∷ gate.Not 0
    ∷ gate.And (9 ∷ 10 ∷ []) ∷ gate.Or (6 ∷ 0 ∷ []) ∷ []

-- in a version, with the place of the emission
abbrev pub nets : ℕ → ℕ → NetRecords
nets version place =
    record {
      version = version;
      signals = output ∷ [];
      bodies = [];
      registers = (true, 0) ∷ (false, 4) ∷ (false, 11) ∷ [];
      gates = gates;
      tests = [];
      emits =
          record { control = 7; signal = 0; sent = sent.Nothing; pos = record { 0 = place } } ∷ [];
      execs = [];
      done = 7;
    }

-- in version 2
pub form : HasForm (nets 2 25)
form =
    record {
      version = inr refl;
      first_version = λ e. absurd (let clash : ⊥ = cc in clash);
      interface_first = (tt, tt);
      lists =
          record {
            signals = omega arith;
            bodies = omega arith;
            params = tt;
            registers = omega arith;
            gates = omega arith;
            tests = omega arith;
            emits = omega arith;
            execs = omega arith;
            args = tt;
          };
      expressions =
          record { bodies = tt; tests = tt; emits = (tt, tt); execs = tt };
    }

pub keeps_rules : IsNets (nets 2 25)
keeps_rules =
    record {
      form = form;
      range =
          record {
            signals = refl;
            bodies = refl;
            registers = refl;
            gates = refl;
            tests = refl;
            emits = refl;
            execs = refl;
            done = refl;
          };
      kinds =
          record {
            each = record { signals = refl; bodies = refl; tests = refl; emits = refl; execs = refl };
            names_differ = (tt, tt);
          };
    }
