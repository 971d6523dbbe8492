-- One call after another: what both take, and what both add.
use Rattle.std.proofs.Common.{◌≡◌, ◌≢◌, ℕ, ◌+◌, ◌-◌, ◌≤◌, Option, List, [], ◌++◌, length, take, drop, refl, sym, ap, subst, ◌∙◌, length-append, length-drop, append-nil, arith}
use Rattle.std.proofs.Math.Seq.{take-add, take-length, take-append_seam, drop-nil}
use Rattle.std.proofs.lemmas.List.{take-append-drop, drop-drop}
use Rattle.std.proofs.KnownBytes.{Consumes-trans, Appends-trans}
use Rattle.std.specs.Io.KnownBytes.{Consumes, Appends}
use Rattle.hh_io.specs.Bytes.{AppendsPrefix}
use Rattle.hh_io.specs.SourceState.{SourceState, Gives, GivesAll, GivesCount, GivesAtMost, FailsReading}
use Rattle.hh_io.specs.SinkState.{SinkState, Puts, PutsPart, FailsPutting, CutsOff}
use Rattle.hh_io.specs.declared.fault.SinkFault.{SinkFault}
use Rattle.hh_io.specs.declared.fault.SinkFault.TheVariants as sink_fault

-- ---- reads

pub Gives-more : (a b c : SourceState) (xs ys : List ℕ) → Gives a b xs → Gives b c ys → Gives a c (xs ++ ys)
Gives-more a b c xs ys p q =
    record { came = Consumes-trans a.rest b.rest c.rest xs ys p.came q.came; goes_on = q.goes_on ∙ p.goes_on; quiet = q.quiet ∙ p.quiet }

pub GivesAll-more : (a b c : SourceState) (xs : List ℕ) → Gives a b xs → GivesAll b c [] → GivesAll a c xs
GivesAll-more a b c xs p q =
    record {
      came = subst (Consumes a.rest c.rest) (append-nil xs) (Consumes-trans a.rest b.rest c.rest xs [] p.came q.came);
      ended = q.ended;
      told = (let t = q.told in let g = p.goes_on in cc);
      quiet = q.quiet ∙ p.quiet;
    }

pub GivesCount-more : (a b c : SourceState) (xs : List ℕ) (n m : ℕ) → Gives a b xs → GivesCount b c n → length xs + n ≡ m → GivesCount a c m
GivesCount-more a b c xs n m p q e = (xs ++ q.0, length-append xs q.0 ∙ ap (λ k. length xs + k) q.1 ∙ e, Gives-more a b c xs q.0 p q.2)

pub GivesAtMost-more : (a b c : SourceState) (xs : List ℕ) (n m : ℕ) → Gives a b xs → GivesAtMost b c n → length xs + n ≤ m → GivesAtMost a c m
GivesAtMost-more a b c xs n m p q le = (xs ++ q.0, omega (arith, length-append xs q.0, q.1), Gives-more a b c xs q.0 p q.2)

pub FailsReading-more : (a b c : SourceState) (xs : List ℕ) (n m : ℕ) → Gives a b xs → FailsReading b c n → length xs + n ≤ m → FailsReading a c m
FailsReading-more a b c xs n m p q le =
    let l = q.lost in
    record {
      lost = (xs ++ l.0, omega (arith, length-append xs l.0, l.1), Consumes-trans a.rest b.rest c.rest xs l.0 p.came l.2);
      goes_on = q.goes_on ∙ p.goes_on;
      fault = (let f = q.fault in let s = p.quiet in cc);
    }

-- ---- writes

Appends-step : (a b c : Option (List ℕ)) (bs : List ℕ) (n m : ℕ) → Appends a b (take n bs) → Appends b c (take m (drop n bs)) → Appends a c (take (n + m) bs)
Appends-step a b c bs n m p q = rw (take-add n m bs) (Appends-trans a b c _ _ p q)

-- n bytes of a text were added, and then m of the rest
pub Puts-step : (a b c : SinkState) (bs : List ℕ) (n m : ℕ) → Puts a b (take n bs) → Puts b c (take m (drop n bs)) → Puts a c (take (n + m) bs)
Puts-step a b c bs n m p q = record { added = Appends-step a.written b.written c.written bs n m p.added q.added; quiet = q.quiet ∙ p.quiet }

AppendsPrefix-step : (a b c : Option (List ℕ)) (bs : List ℕ) (n : ℕ) → n ≤ length bs → Appends a b (take n bs) → AppendsPrefix b c (drop n bs) → AppendsPrefix a c bs
AppendsPrefix-step a b c bs n short p q = (n + q.0, omega (arith, length-drop n bs, q.1), Appends-step a b c bs n q.0 p q.2)

some_drop : (n : ℕ) (bs : List ℕ) → drop n bs ≢ [] → bs ≢ []
some_drop n bs h e = h (rw e (drop-nil n))

-- n bytes of a text were added, and the rest was cut off
pub CutsOff-step : (a b c : SinkState) (bs : List ℕ) (n : ℕ) (e : SinkFault) → n ≤ length bs → Puts a b (take n bs) → CutsOff b c (drop n bs) e → CutsOff a c bs e
CutsOff-step a b c bs n sink_fault.Failed short p q =
    record { prefix = AppendsPrefix-step a.written b.written c.written bs n short p.added q.prefix; fault = (let f = q.fault in let s = p.quiet in cc); some = some_drop n bs q.some }
CutsOff-step a b c bs n sink_fault.NoMemory short p q =
    record { prefix = AppendsPrefix-step a.written b.written c.written bs n short p.added q.prefix; quiet = q.quiet ∙ p.quiet }

-- the rest of a text behind its first n bytes, as a range of it
pub rest-drop : (n : ℕ) (bs : List ℕ) → take (length bs - n) (drop n bs) ≡ drop n bs
rest-drop n bs = ap (λ k. take k (drop n bs)) (sym (length-drop n bs)) ∙ take-length (drop n bs)

-- n bytes of a text at a place, copied to the front of a buffer, and the rest behind them are the text from there on
pub drop-copied : (bs : List ℕ) (at n : ℕ) (copied behind : List ℕ) → copied ≡ take (at + n - at) (drop at bs) → length copied ≡ n → drop at bs ≡ take n (copied ++ behind) ++ drop (at + n) bs
drop-copied bs at n copied behind same len =
    let front : take n (copied ++ behind) ≡ copied = ap (λ k. take k (copied ++ behind)) (sym len) ∙ take-append_seam copied behind in
    let count : at + n - at ≡ n = omega arith in
    let whole : take n (copied ++ behind) ≡ take n (drop at bs) = front ∙ same ∙ ap (λ k. take k (drop at bs)) count in
    sym (take-append-drop n (drop at bs)) ∙ ap (λ l. take n (drop at bs) ++ l) (drop-drop n at bs) ∙ ap (λ l. l ++ drop (at + n) bs) (sym whole)
