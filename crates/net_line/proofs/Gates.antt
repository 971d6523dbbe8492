-- Lines of gates and registers and lines with a count are read as they are written.
use Rattle.std.proofs.Common.{◌≡◌, ◌≢◌, ℕ, zero, suc, ◌+◌, ◌<◌, ◌≤◌, Bool, true, false, List, [], ◌∷◌, ◌++◌}
use Rattle.std.proofs.Common.{Option, Some, None}
use Rattle.std.proofs.Common.{refl, sym, ap, ◌∙◌, subst, arith, length, codes, append_assoc}
use Rattle.std.specs.Prelude.{◌&&◌, ◌==◌, ◌||◌, not, if◌then◌else◌, decimal}
use Rattle.std.specs.Char.{is_ascii_digit}
use Rattle.std.specs.List.{flat_map, AllByRecursion}
use Rattle.std.specs.Str.{all_ascii_digits, bytes_eq}
use Rattle.std.specs.Str.Parse.{digits_value}
use Rattle.std.proofs.lemmas.Bool.Decides.{nat_tests}
use Rattle.std.proofs.lemmas.Fmt.{digits_decimal}
use Rattle.std.proofs.lemmas.Str.Parse.{IsNumeralModel, numerals_by_value, tells_all_ascii_digits}
use Rattle.hh_base.specs.Bytes.{space, line_feed, quote}
use Rattle.net_list.specs.Form.{GREATEST}
use Rattle.net_list.specs.declared.gate.NetGate.{NetGate}
use Rattle.net_list.specs.declared.gate.NetGate.TheVariants as gate
use Rattle.net_line.specs.declared.gate.Named.{Named}
use Rattle.net_line.specs.declared.gate.Named.TheVariants as named
use Rattle.net_line.specs.declared.gate.GateWord.{GateWord}
use Rattle.net_line.specs.declared.gate.GateWord.TheVariants as word
use Rattle.net_text.specs.Parts.{spaced, line_end as line_feed_alone, number as written_number}
use Rattle.net_text.specs.Lines.{gate_parts, gate_line, register_line, state_digit}
use Rattle.net_text.specs.NetText.{heading}
use Rattle.net_line.specs.Formed.{IsSmall, AllSmall, IsGateForm, IsRegisterForm}
use Rattle.net_line.specs.Decoding.{number_of}
use Rattle.net_line.specs.Reading.{Ends}
use Rattle.net_line.specs.Reading.{Read, Reader, plain, ends, lift, part_as, word_as, and_then, ◌>>=◌, pure}
use Rattle.net_line.specs.Reading.{times, line_end, word as front}
use Rattle.net_line.specs.GateReading.{number, named_word, if_taken, gate_word, gate_of, spaces, inputs}
use Rattle.net_line.specs.GateReading.{gate_behind}
use Rattle.net_line.specs.GateReading.{gate_line_of, state_of, register_line_of, word_is, heading_of}
use Rattle.net_line.proofs.Chain.{Between, between, same_read, Reads_under, ReadsAll, Anything, in_turn}
use Rattle.net_line.proofs.Chain.{made, reads_same}
use Rattle.net_line.proofs.Numbers.{number_is, number_only, same_bytes, are_same}
use Rattle.net_line.proofs.Parts.{is_quoted, IsPart, plain_part, DecodesAll, reads_part, reads_word}
use Rattle.net_line.proofs.Parts.{reads_end, lifted}

own : IsNumeralModel (λ ds. all_ascii_digits ds ≡ true) (digits_value 10)
own = numerals_by_value _ tells_all_ascii_digits

both : (a b : Bool) → (a && b) ≡ true → (a ≡ true) × (b ≡ true)
both true b e = (refl, e)
both false b e = absurd cc

not_end : (b : ℕ) → is_ascii_digit b ≡ true → ends b ≡ false
not_end b h = grind (arith, nat_tests)

not_quote : (b : ℕ) → is_ascii_digit b ≡ true → (b == quote) ≡ false
not_quote b h = grind (arith, nat_tests)

put : (a b : Bool) → a ≡ false → b ≡ true → (not a && b) ≡ true
put false b e f = f
put true b e f = absurd cc

pub digits_plain : (ds : List ℕ) → all_ascii_digits ds ≡ true → plain ds ≡ true
digits_plain [] h = refl
digits_plain (b ∷ ds) h =
    let p = both (is_ascii_digit b) (all_ascii_digits ds) h in
    put (ends b) (plain ds) (not_end b p.0) (digits_plain ds p.1)

pub digits_unquoted : (ds : List ℕ) → all_ascii_digits ds ≡ true → is_quoted ds ≡ false
digits_unquoted [] h = refl
digits_unquoted (b ∷ ds) h = not_quote b (both (is_ascii_digit b) (all_ascii_digits ds) h).0

pub decimal_digits : (n : ℕ) → IsSmall n → all_ascii_digits (decimal n) ≡ true
decimal_digits n h = digits_decimal own n (omega (arith, h))

pub decimal_plain : (n : ℕ) → IsSmall n → plain (decimal n) ≡ true
decimal_plain n h = digits_plain (decimal n) (decimal_digits n h)

pub decimal_part : (n : ℕ) → IsSmall n → IsPart (decimal n)
decimal_part n h = plain_part (decimal n) (decimal_plain n h) (digits_unquoted (decimal n) (decimal_digits
    n h))

pub numbers : DecodesAll number_of decimal IsSmall
numbers = record { complete = λ n h. number_is (decimal n) n h refl; sound = λ w n e. number_only w n e }

pub reads_number : ReadsAll Ends number written_number IsSmall
reads_number = reads_part numbers decimal_part

-- ---- lines with a count

word_tt : (word : List ℕ) → DecodesAll (word_is word) (λ u. word) Anything
word_tt word = record {
  complete = λ u h. is_taken (bytes_eq word word) (same_bytes word word refl);
  sound = λ w u e. (are_same w word (was_taken (bytes_eq w word) u e), tt);
}
  where
    is_taken : (b : Bool) → b ≡ true → ◌≡◌ {A = Option (Unit {0})} (if b then Some tt else None) (Some tt)
    is_taken true e = refl
    is_taken false e = absurd cc

    was_taken : (b : Bool) (u : Unit {0}) → ◌≡◌ {A = Option (Unit {0})} (if b then Some tt else None) (Some
        u) → b ≡ true
    was_taken true u e = refl
    was_taken false u e = absurd cc

pub reads_heading : (word : List ℕ) → plain word ≡ true → ReadsAll Anything (heading_of word) (heading
    word) IsSmall
reads_heading word h =
    reads_same (λ n. right word n) (λ n f. (tt, (f, (tt, tt)))) (λ n f. f.1.0)
    (in_turn {A = Unit {0}} (λ n. tt) (reads_word (word_tt word) (λ u f. h)) (λ n f c e. refl) (λ a.
    in_turn {A = ℕ} (λ n. n) reads_number (λ n f c e. refl) (λ n.
    in_turn {A = Unit {0}} (λ n. tt) reads_end (λ n f c e. tt) (λ u.
    made n (((tt, refl), refl), refl) (λ m p. sym p.0.1)))))
  where
    right : (word : List ℕ) (n : ℕ) → word ++ (written_number n ++ (line_feed_alone ++ [])) ≡ heading word n
    right word n = sym (append_assoc word (written_number n) line_feed_alone)

-- ---- registers

states : DecodesAll state_of state_digit Anything
states = record {
  complete = state_is;
  sound = λ w b e. (
    state_only w b (bytes_eq w (codes "0")) (bytes_eq
        w (codes "1")) refl refl e,
    tt,
  );
}
  where
    state_is : (b : Bool) → Unit {0} → state_of (state_digit b) ≡ Some b
    state_is true h = refl
    state_is false h = refl

    state_only : (w : List ℕ) (b zero_word one_word : Bool) → bytes_eq w (codes "0") ≡ zero_word
        → bytes_eq w (codes "1") ≡ one_word
        → ◌≡◌ {A = Option Bool} (if zero_word then Some false else if one_word then Some true else None)
        (Some b)
        → w ≡ state_digit b
    state_only w true true one z o e = absurd cc
    state_only w false true one z o e = are_same w (codes "0") z
    state_only w true false true z o e = are_same w (codes "1") o
    state_only w false false true z o e = absurd cc
    state_only w b false false z o e = absurd cc

state_plain : (b : Bool) → Unit {0} → plain (state_digit b) ≡ true
state_plain true h = refl
state_plain false h = refl

pub reads_register : ReadsAll Anything register_line_of register_line IsRegisterForm
reads_register =
    reads_same (λ r. sym (append_assoc (state_digit r.0) (written_number r.1) line_feed_alone))
    (λ r f. (tt, (f, (tt, tt)))) (λ r f. f.1.0)
    (in_turn {A = Bool} {S = Bool × ℕ} (λ r. r.0) (reads_word states state_plain) (λ r f c e. refl) (λ s.
    in_turn {A = ℕ} {S = Bool × ℕ} (λ r. r.1) reads_number (λ r f c e. refl) (λ n.
    in_turn {A = Unit {0}} {S = Bool × ℕ} (λ r. tt) reads_end (λ r f c e. tt) (λ u.
    made (s, n) (((tt, refl), refl), refl) (λ r p. (λ i. (sym p.0.0.1 i, sym p.0.1 i)))))))

-- ---- so many, one after the other

module _ {A : Type 0} {E : List ℕ → Type 0} {r : Reader A} {W : A → List ℕ} {F : A → Type 0} (one :
    ReadsAll E r W F)
    (goes : (a : A) → F a → (c : List ℕ) → E c → E (W a ++ c)) where
  follows : (xs : List A) → AllByRecursion F xs → (c : List ℕ) → E c → E (flat_map W xs ++ c)
  follows [] h c e = e
  follows (x ∷ xs) h c e =
      subst E (sym (append_assoc (W x) (flat_map W xs) c)) (goes x h.0 (flat_map W xs ++ c) (follows xs h.1
      c e))

  pub times_read : (xs : List A) → AllByRecursion F xs → (c : List ℕ) → E c
      → times (length xs) r (flat_map W xs ++ c) ≡ Some (xs, c)
  times_read [] h c e = refl
  times_read (x ∷ xs) h c e =
      let rest : A → Reader (List A) = λ a. times (length xs) r >>= λ as_read. pure (a ∷ as_read) in
      ap (λ l. and_then (r l) rest) (append_assoc (W x) (flat_map W xs) c)
      ∙ ap (λ o. and_then o rest) (one.complete x tt h.0 (flat_map W xs ++ c) (follows xs h.1 c e))
      ∙ ap (λ o. and_then o (λ as_read. pure (x ∷ as_read))) (times_read xs h.1 c e)

  pub times_only : (n : ℕ) (l : List ℕ) (xs : List A) (c : List ℕ) → times n r l ≡ Some (xs, c)
      → (l ≡ flat_map W xs ++ c) × AllByRecursion F xs × (length xs ≡ n)
  times_only zero l xs c e =
      let h = same_read {A = List A} [] xs l c e in
      (h.1 ∙ ap (λ y. flat_map W y ++ c) h.0, subst (AllByRecursion F) h.0 tt, sym (ap length h.0))
  times_only (suc n) l xs c e =
      let b = between (r l) (λ a. times n r >>= λ as_read. pure (a ∷ as_read)) xs c e in
      let d = between (times n r b.mid) (λ as_read. pure (b.first ∷ as_read)) xs c b.then_read in
      let h = one.sound l b.first b.mid b.read in
      let k = times_only n b.mid d.first d.mid d.read in
      let s = same_read {A = List A} (b.first ∷ d.first) xs d.mid c d.then_read in (
        h.0 ∙ ap (λ m. W b.first ++ m) k.0 ∙ sym (append_assoc (W b.first) (flat_map W d.first) d.mid)
            ∙ (λ i. flat_map W (s.0 i) ++ s.1 i),
        subst (AllByRecursion F) s.0 (h.1, k.1),
        sym (ap length s.0) ∙ ap suc k.2,
      )

-- ---- gates

abbrev pub Closes : List ℕ → Type 0
Closes [] = ⊥
Closes (b ∷ bs) = b ≡ line_feed

closes_ends : (c : List ℕ) → Closes c → Ends c
closes_ends [] e = absurd e
closes_ends (b ∷ c) e = ap ends e

neither : (b : ℕ) → is_ascii_digit b ≡ true → ((b == line_feed) ≡ false) × ((b == space) ≡ false)
neither b h = (
  let x : (b == line_feed) ≡ false = grind (arith, nat_tests) in x,
  let y : (b == space) ≡
      false = grind (arith, nat_tests) in y,
)

skipped : (a b : Bool) (n : ℕ) → a ≡ false → b ≡ false → (if a then 0 else (if b then 1 + n else 0 + n)) ≡ n
skipped false false n e f = let same : 0 + n ≡ n = omega arith in same
skipped true b n e f = absurd cc
skipped false true n e f = absurd cc

spaces_digits : (ds y : List ℕ) → all_ascii_digits ds ≡ true → spaces (ds ++ y) ≡ spaces y
spaces_digits [] y h = refl
spaces_digits (b ∷ ds) y h =
    let p = both (is_ascii_digit b) (all_ascii_digits ds) h in
    let q = neither b p.0 in
    skipped (b == line_feed) (b == space) (spaces (ds ++ y)) q.0 q.1 ∙ spaces_digits ds y p.1

spaces_closed : (c : List ℕ) → Closes c → spaces c ≡ 0
spaces_closed [] e = absurd e
spaces_closed (b ∷ c) e = ap (λ x. spaces (x ∷ c)) e

spaces_numbers : (ns c : List ℕ) → AllSmall ns → Closes c → spaces (flat_map written_number ns ++ c) ≡
    length ns
spaces_numbers [] c h e = spaces_closed c e
spaces_numbers (n ∷ ns) c h e =
    ap spaces (append_assoc (written_number n) (flat_map written_number ns) c)
    ∙ ap (λ k. 1 + k) (spaces_digits (decimal n) (flat_map written_number ns ++ c) (decimal_digits n h.0)
    ∙ spaces_numbers ns c h.1 e)
    ∙ (let more : 1 + length ns ≡ length (n ∷ ns) = omega arith in more)

reads_inputs : ReadsAll Closes inputs (flat_map written_number) AllSmall
reads_inputs = record {
  complete = λ ns u h c e.
      ap (λ k. times k number (flat_map written_number ns ++ c)) (spaces_numbers ns c h e)
      ∙ times_read reads_number (λ n s d f. refl) ns h c (closes_ends c e);
  sound = λ l ns c e.
      let k = times_only reads_number (λ n s d f. refl) (spaces l) l ns c e in (k.0, k.1, tt);
}

abbrev head_of : NetGate → GateWord
head_of gate.Zero = word.Zero
head_of gate.One = word.One
head_of (gate.Not n) = word.Of named.Not
head_of (gate.And ns) = word.And
head_of (gate.Or ns) = word.Or
head_of (gate.Reg n) = word.Of named.Reg
head_of (gate.Test n) = word.Of named.Test
head_of (gate.Input n) = word.Of named.Input
head_of (gate.Answer n) = word.Of named.Answer
head_of (gate.Part n) = word.Of named.Part

abbrev name_of : Named → List ℕ
name_of named.Not = codes "not"
name_of named.Reg = codes "reg"
name_of named.Test = codes "test"
name_of named.Input = codes "in"
name_of named.Answer = codes "ans"
name_of named.Part = codes "part"

abbrev word_of : GateWord → List ℕ
word_of word.Zero = codes "0"
word_of word.One = codes "1"
word_of word.And = codes "and"
word_of word.Or = codes "or"
word_of (word.Of k) = name_of k

abbrev tail_of : NetGate → List ℕ
tail_of gate.Zero = []
tail_of gate.One = []
tail_of (gate.Not n) = written_number n
tail_of (gate.And ns) = flat_map written_number ns
tail_of (gate.Or ns) = flat_map written_number ns
tail_of (gate.Reg n) = written_number n
tail_of (gate.Test n) = written_number n
tail_of (gate.Input n) = written_number n
tail_of (gate.Answer n) = written_number n
tail_of (gate.Part n) = written_number n

in_halves : (g : NetGate) → word_of (head_of g) ++ tail_of g ≡ gate_parts g
in_halves gate.Zero = refl
in_halves gate.One = refl
in_halves (gate.Not n) = refl
in_halves (gate.And ns) = refl
in_halves (gate.Or ns) = refl
in_halves (gate.Reg n) = refl
in_halves (gate.Test n) = refl
in_halves (gate.Input n) = refl
in_halves (gate.Answer n) = refl
in_halves (gate.Part n) = refl

tail_read : (parts : Bool) (g : NetGate) → IsGateForm parts g → (c : List ℕ) → Closes c
    → gate_behind (head_of g) (tail_of g ++ c) ≡ Some (g, c)
tail_read parts gate.Zero f c e = refl
tail_read parts gate.One f c e = refl
tail_read parts (gate.Not n) f c e =
    ap (λ o. and_then o (λ m. pure (gate.Not m))) (reads_number.complete n tt f c (closes_ends c e))
tail_read parts (gate.And ns) f c e = ap (λ o. and_then o (λ m. pure (gate.And m))) (reads_inputs.complete
    ns tt f c e)
tail_read parts (gate.Or ns) f c e = ap (λ o. and_then o (λ m. pure (gate.Or m))) (reads_inputs.complete ns
    tt f c e)
tail_read parts (gate.Reg n) f c e =
    ap (λ o. and_then o (λ m. pure (gate.Reg m))) (reads_number.complete n tt f c (closes_ends c e))
tail_read parts (gate.Test n) f c e =
    ap (λ o. and_then o (λ m. pure (gate.Test m))) (reads_number.complete n tt f c (closes_ends c e))
tail_read parts (gate.Input n) f c e =
    ap (λ o. and_then o (λ m. pure (gate.Input m))) (reads_number.complete n tt f c (closes_ends c e))
tail_read parts (gate.Answer n) f c e =
    ap (λ o. and_then o (λ m. pure (gate.Answer m))) (reads_number.complete n tt f c (closes_ends c e))
tail_read parts (gate.Part n) f c e =
    ap (λ o. and_then o (λ m. pure (gate.Part m))) (reads_number.complete n tt f.1 c (closes_ends c e))

abbrev may_stand : Bool → GateWord → Type 0
may_stand parts (word.Of named.Part) = parts ≡ true
may_stand parts _ = Unit {0}

form_of : (parts : Bool) (k : Named) (n : ℕ) → may_stand parts (word.Of k) → IsSmall n → IsGateForm parts
    (gate_of k n)
form_of parts named.Not n m h = h
form_of parts named.Reg n m h = h
form_of parts named.Test n m h = h
form_of parts named.Input n m h = h
form_of parts named.Answer n m h = h
form_of parts named.Part n m h = (m, h)

parts_of : (k : Named) (n : ℕ) → name_of k ++ written_number n ≡ gate_parts (gate_of k n)
parts_of named.Not n = refl
parts_of named.Reg n = refl
parts_of named.Test n = refl
parts_of named.Input n = refl
parts_of named.Answer n = refl
parts_of named.Part n = refl

-- a gate whose word was read
tail_only : (parts : Bool) (w : GateWord) → may_stand parts w → (l : List ℕ) (g : NetGate) (c : List ℕ)
    → gate_behind w l ≡ Some (g, c) → (word_of w ++ l ≡ gate_parts g ++ c) × IsGateForm parts g
tail_only parts word.Zero m l g c e =
    let s = same_read gate.Zero g l c e in
    (λ i. gate_parts (s.0 i) ++ s.1 i, subst (IsGateForm parts) s.0 tt)
tail_only parts word.One m l g c e =
    let s = same_read gate.One g l c e in
    (λ i. gate_parts (s.0 i) ++ s.1 i, subst (IsGateForm parts) s.0 tt)
tail_only parts word.And m l g c e =
    let b = between (inputs l) (λ ns. pure (gate.And ns)) g c e in
    let h = reads_inputs.sound l b.first b.mid b.read in
    let s = same_read (gate.And b.first) g b.mid c b.then_read in
    (ap (λ x. codes "and" ++ x) h.0 ∙ (λ i. gate_parts (s.0 i) ++ s.1 i), subst (IsGateForm parts) s.0 h.1)
tail_only parts word.Or m l g c e =
    let b = between (inputs l) (λ ns. pure (gate.Or ns)) g c e in
    let h = reads_inputs.sound l b.first b.mid b.read in
    let s = same_read (gate.Or b.first) g b.mid c b.then_read in
    (ap (λ x. codes "or" ++ x) h.0 ∙ (λ i. gate_parts (s.0 i) ++ s.1 i), subst (IsGateForm parts) s.0 h.1)
tail_only parts (word.Of k) m l g c e =
    let b = between (number l) (λ n. pure (gate_of k n)) g c e in
    let h = reads_number.sound l b.first b.mid b.read in
    let s = same_read (gate_of k b.first) g b.mid c b.then_read in (
      ap (λ x. name_of k ++ x) h.0 ∙ sym (append_assoc (name_of k) (written_number b.first) b.mid)
          ∙ ap (λ x. x ++ b.mid) (parts_of k b.first) ∙ (λ i. gate_parts (s.0 i) ++ s.1 i),
      subst (IsGateForm parts) s.0 (form_of parts k b.first m h.1),
    )

named_only : (w : List ℕ) (k : Named) → named_word w ≡ Some k → w ≡ name_of k
named_only w k e =
    by_tests (bytes_eq w (codes "not")) (bytes_eq w (codes "reg")) (bytes_eq w (codes "test")) (bytes_eq w
    (codes "in"))
    (bytes_eq w (codes "ans")) (bytes_eq w (codes "part")) refl refl refl refl refl refl e
  where
    by_tests : (a b c d f g : Bool) → bytes_eq w (codes "not") ≡ a → bytes_eq w (codes "reg") ≡ b
        → bytes_eq w (codes "test") ≡ c → bytes_eq w (codes "in") ≡ d → bytes_eq w (codes "ans") ≡ f
        → bytes_eq w (codes "part") ≡ g
        → ◌≡◌ {A = Option Named} (if a then Some named.Not else if b then Some named.Reg
        else if c then Some named.Test else if d then Some named.Input else if f then Some named.Answer
        else if g then Some named.Part else None) (Some k) → w ≡ name_of k
    by_tests true b c d f g ha hb hc hd hf hg e = (let same : named.Not ≡ k = cc in are_same w (codes
        "not") ha ∙ ap name_of same)
    by_tests false true c d f g ha hb hc hd hf hg e = (let same : named.Reg ≡ k = cc in are_same w (codes
        "reg") hb ∙ ap name_of same)
    by_tests false false true d f g ha hb hc hd hf hg e = (let same : named.Test ≡ k = cc in are_same w
        (codes "test") hc ∙ ap name_of same)
    by_tests false false false true f g ha hb hc hd hf hg e = (let same : named.Input ≡ k = cc in are_same
        w (codes "in") hd ∙ ap name_of same)
    by_tests false false false false true g ha hb hc hd hf hg e = (let same : named.Answer ≡ k = cc in
        are_same w (codes "ans") hf ∙ ap name_of same)
    by_tests false false false false false true ha hb hc hd hf hg e = (let same : named.Part ≡ k = cc in
        are_same w (codes "part") hg ∙ ap name_of same)
    by_tests false false false false false false ha hb hc hd hf hg e = absurd cc

taken_only : (parts : Bool) (o : Option Named) (g : GateWord) → if_taken parts o ≡ Some g
    → (k : Named) × (o ≡ Some k) × (word.Of k ≡ g) × may_stand parts g
taken_only parts None g e = absurd cc
taken_only true (Some named.Part) g e = let same : word.Of named.Part ≡ g = cc in (
  named.Part,
  refl,
  same,
  subst (may_stand true) same refl,
)
taken_only false (Some named.Part) g e = absurd cc
taken_only parts (Some named.Not) g e = let same : word.Of named.Not ≡ g = cc in (
  named.Not,
  refl,
  same,
  subst (may_stand parts) same tt,
)
taken_only parts (Some named.Reg) g e = let same : word.Of named.Reg ≡ g = cc in (
  named.Reg,
  refl,
  same,
  subst (may_stand parts) same tt,
)
taken_only parts (Some named.Test) g e = let same : word.Of named.Test ≡ g = cc in (
  named.Test,
  refl,
  same,
  subst (may_stand parts) same tt,
)
taken_only parts (Some named.Input) g e = let same : word.Of named.Input ≡ g = cc in (
  named.Input,
  refl,
  same,
  subst (may_stand parts) same tt,
)
taken_only parts (Some named.Answer) g e = let same : word.Of named.Answer ≡ g = cc in (
  named.Answer,
  refl,
  same,
  subst (may_stand parts) same tt,
)

of_named : (parts : Bool) (w : List ℕ) (g : GateWord) → if_taken parts (named_word w) ≡ Some g
    → (w ≡ word_of g) × may_stand parts g
of_named parts w g e =
    let t = taken_only parts (named_word w) g e in
    (named_only w t.0 t.1 ∙ ap word_of t.2, t.3)

gate_words : (parts : Bool) → DecodesAll (gate_word parts) word_of (may_stand parts)
gate_words parts = record {
  complete = word_read parts;
  sound = λ w g e. by_tests w g (bytes_eq w (codes
      "0")) (bytes_eq w (codes "1")) (bytes_eq w (codes "and")) (bytes_eq w (codes "or")) refl refl refl refl
      e;
}
  where
    word_read : (parts : Bool) (g : GateWord) → may_stand parts g → gate_word parts (word_of g) ≡ Some g
    word_read parts word.Zero m = refl
    word_read parts word.One m = refl
    word_read parts word.And m = refl
    word_read parts word.Or m = refl
    word_read parts (word.Of named.Not) m = refl
    word_read parts (word.Of named.Reg) m = refl
    word_read parts (word.Of named.Test) m = refl
    word_read parts (word.Of named.Input) m = refl
    word_read parts (word.Of named.Answer) m = refl
    word_read true (word.Of named.Part) m = refl
    word_read false (word.Of named.Part) m = absurd cc

    by_tests : (w : List ℕ) (g : GateWord) (a b c d : Bool) → bytes_eq w (codes "0") ≡ a → bytes_eq w
        (codes "1") ≡ b
        → bytes_eq w (codes "and") ≡ c → bytes_eq w (codes "or") ≡ d
        → ◌≡◌ {A = Option GateWord} (if a then Some word.Zero else if b then Some word.One
        else if c then Some word.And else if d then Some word.Or else if_taken parts (named_word w)) (Some g)
        → (w ≡ word_of g) × may_stand parts g
    by_tests w g true b c d ha hb hc hd e = (let same : word.Zero ≡ g = cc in (
      are_same w (codes "0") ha ∙
          ap word_of same,
      subst (may_stand parts) same tt,
    ))
    by_tests w g false true c d ha hb hc hd e = (let same : word.One ≡ g = cc in (
      are_same w (codes "1") hb
          ∙ ap word_of same,
      subst (may_stand parts) same tt,
    ))
    by_tests w g false false true d ha hb hc hd e = (let same : word.And ≡ g = cc in (
      are_same w (codes
          "and") hc ∙ ap word_of same,
      subst (may_stand parts) same tt,
    ))
    by_tests w g false false false true ha hb hc hd e = (let same : word.Or ≡ g = cc in (
      are_same w (codes
          "or") hd ∙ ap word_of same,
      subst (may_stand parts) same tt,
    ))
    by_tests w g false false false false ha hb hc hd e = of_named parts w g e

plain_word : (parts : Bool) (g : GateWord) → may_stand parts g → plain (word_of g) ≡ true
plain_word parts word.Zero m = refl
plain_word parts word.One m = refl
plain_word parts word.And m = refl
plain_word parts word.Or m = refl
plain_word parts (word.Of named.Not) m = refl
plain_word parts (word.Of named.Reg) m = refl
plain_word parts (word.Of named.Test) m = refl
plain_word parts (word.Of named.Input) m = refl
plain_word parts (word.Of named.Answer) m = refl
plain_word parts (word.Of named.Part) m = refl

stands : (parts : Bool) (g : NetGate) → IsGateForm parts g → may_stand parts (head_of g)
stands parts gate.Zero f = tt
stands parts gate.One f = tt
stands parts (gate.Not n) f = tt
stands parts (gate.And ns) f = tt
stands parts (gate.Or ns) f = tt
stands parts (gate.Reg n) f = tt
stands parts (gate.Test n) f = tt
stands parts (gate.Input n) f = tt
stands parts (gate.Answer n) f = tt
stands parts (gate.Part n) f = f.0

tail_ends : (g : NetGate) (c : List ℕ) → Closes c → Ends (tail_of g ++ c)
tail_ends gate.Zero c e = closes_ends c e
tail_ends gate.One c e = closes_ends c e
tail_ends (gate.Not n) c e = refl
tail_ends (gate.And []) c e = closes_ends c e
tail_ends (gate.And (n ∷ ns)) c e = refl
tail_ends (gate.Or []) c e = closes_ends c e
tail_ends (gate.Or (n ∷ ns)) c e = refl
tail_ends (gate.Reg n) c e = refl
tail_ends (gate.Test n) c e = refl
tail_ends (gate.Input n) c e = refl
tail_ends (gate.Answer n) c e = refl
tail_ends (gate.Part n) c e = refl

gate_in_parts : (g : NetGate) (c : List ℕ) → gate_line g ++ c ≡ word_of (head_of g) ++ (tail_of g ++
    (line_feed ∷ c))
gate_in_parts g c =
    append_assoc (gate_parts g) line_feed_alone c ∙ ap (λ x. x ++ (line_feed ∷ c)) (sym (in_halves g))
    ∙ append_assoc (word_of (head_of g)) (tail_of g) (line_feed ∷ c)

abbrev behind_word : GateWord → Reader NetGate
behind_word w = gate_behind w >>= λ g. line_end >>= λ u. pure g

pub reads_gate : (parts : Bool) → ReadsAll Anything (gate_line_of parts) gate_line (IsGateForm parts)
reads_gate parts = record {
  complete = λ g u f c e.
      ap (gate_line_of parts) (gate_in_parts g c)
      ∙ ap (λ o. and_then o (λ w. gate_behind w >>= λ g. line_end >>= λ u. pure g))
      ((reads_word (gate_words parts) (plain_word parts)).complete (head_of g) tt (stands parts g f)
      (tail_of g ++ (line_feed ∷ c)) (tail_ends g (line_feed ∷ c) refl))
      ∙ ap (λ o. and_then o (λ g. line_end >>= λ u. pure g)) (tail_read parts g f (line_feed ∷ c) refl);
  sound = λ l g c e.
      let b = between (word_as (gate_word parts) l) (λ w. gate_behind w >>= λ g. line_end >>= λ u. pure g)
      g c e in
      let h = (reads_word (gate_words parts) (plain_word parts)).sound l b.first b.mid b.read in
      let d = between (gate_behind b.first b.mid) (λ g. line_end >>= λ u. pure g) g c b.then_read in
      let k = tail_only parts b.first h.1 b.mid d.first d.mid d.read in
      let t = between (line_end d.mid) (λ u. pure d.first) g c d.then_read in
      let s = same_read d.first g t.mid c t.then_read in
      let ended = reads_end.sound d.mid t.first t.mid t.read in (
        h.0 ∙ k.0 ∙ ap (λ x. gate_parts d.first ++ x) ended.0 ∙ sym (append_assoc (gate_parts d.first)
            line_feed_alone t.mid)
            ∙ (λ i. gate_line (s.0 i) ++ s.1 i),
        subst (IsGateForm parts) s.0 k.1,
        tt,
      );
}
