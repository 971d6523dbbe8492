-- What several writes, one after the other, have added.
use Rattle.std.proofs.Common.{◌≡◌, ℕ, ◌+◌, ◌≤◌, Option, List, [], ◌∷◌, ◌++◌, length, take, refl, ap, sym, subst, ◌∙◌, arith, length-append}
use Rattle.std.proofs.Math.Seq.{take-append-add}
use Rattle.std.proofs.lemmas.List.{take-append-le}
use Rattle.std.proofs.KnownBytes.{Appends-nil, Appends-trans}
use Rattle.std.specs.Io.KnownBytes.{Appends}
use Rattle.hh_io.specs.Bytes.{AppendsPrefix}
use Rattle.hh_io.specs.SinkState.{SinkState, Puts, PutsPart, CutsOff}
use Rattle.hh_io.specs.declared.fault.SinkFault.{SinkFault}
use Rattle.hh_io.specs.declared.fault.SinkFault.TheVariants as sink_fault

pub puts_nothing : (s : SinkState) → Puts s s []
puts_nothing s = record { added = Appends-nil s.written; quiet = refl }

pub puts_no_part : (s : SinkState) (text : List ℕ) → PutsPart s s text
puts_no_part s text = record { prefix = (0, omega arith, Appends-nil s.written); quiet = refl }

pub puts_both : (a b c : SinkState) (x y : List ℕ) → Puts a b x → Puts b c y → Puts a c (x ++ y)
puts_both a b c x y p q = record { added = Appends-trans a.written b.written c.written x y p.added q.added; quiet = q.quiet ∙ p.quiet }

pub puts_same : (a b : SinkState) (x y : List ℕ) → Puts a b x → x ≡ y → Puts a b y
puts_same a b x y p e = subst (Puts a b) e p

-- the front of what is due: a text, and then a part of the next one
take_past : (x y z : List ℕ) (k : ℕ) → k ≤ length y → take (length x + k) (x ++ (y ++ z)) ≡ x ++ take k y
take_past x y z k le = take-append-add x (y ++ z) k ∙ ap (λ t. x ++ t) (take-append-le k y z le)

past_fits : (x y z : List ℕ) (k : ℕ) → k ≤ length y → length x + k ≤ length (x ++ (y ++ z))
past_fits x y z k le = rw (length-append x (y ++ z), length-append y z) (omega arith)

prefix_behind : (a b c : Option (List ℕ)) (due x y z : List ℕ) → Appends a b x → AppendsPrefix b c y → due ≡ x ++ (y ++ z) → AppendsPrefix a c due
prefix_behind a b c due x y z p q e =
    let there : AppendsPrefix a c (x ++ (y ++ z)) = (length x + q.0, past_fits x y z q.0 q.1, subst (Appends a c) (sym (take_past x y z q.0 q.1)) (Appends-trans a b c x (take q.0 y) p q.2)) in
    subst (AppendsPrefix a c) (sym e) there

middle_none : (x y z : List ℕ) → x ++ (y ++ z) ≡ [] → y ≡ []
middle_none [] [] z e = refl
middle_none [] (b ∷ y) z e = cc
middle_none (b ∷ x) y z e = cc

-- one part of what is due was written, and the next one was cut off
pub cuts_behind : (a b c : SinkState) (due x y z : List ℕ) (e : SinkFault) → Puts a b x → CutsOff b c y e → due ≡ x ++ (y ++ z) → CutsOff a c due e
cuts_behind a b c due x y z sink_fault.Failed p q d =
    record {
      prefix = prefix_behind a.written b.written c.written due x y z p.added q.prefix d;
      fault = (let f = q.fault in let s = p.quiet in cc);
      some = λ none. q.some (middle_none x y z (sym d ∙ none));
    }
cuts_behind a b c due x y z sink_fault.NoMemory p q d =
    record { prefix = prefix_behind a.written b.written c.written due x y z p.added q.prefix d; quiet = q.quiet ∙ p.quiet }
