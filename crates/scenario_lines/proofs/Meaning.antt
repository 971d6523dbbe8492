-- What the lines of a text mean, a line at a time.
use Rattle.std.proofs.Common.{◌≡◌, ◌<◌, ◌≤◌, ◌+◌, ◌⊎◌, ℕ, true, false, Option, Some, None, List, [], ◌∷◌, ◌++◌}
use Rattle.std.proofs.Common.{length, refl, sym, ap, ◌∙◌, subst, arith, inl, inr, ⊎_elim, append_assoc, append-nil}
use Rattle.std.specs.Prelude.{All, MatchOption}
use Rattle.std.specs.Option.{option_to_list}
use Rattle.std.proofs.lemmas.List.{length-append}
use Rattle.hh_term.specs.declared.program.SignalDecl.{SignalDecl}
use Rattle.scenario_lines.specs.declared.line.Line.{Line}
use Rattle.scenario_lines.specs.declared.line.Mode.{Mode}
use Rattle.scenario_lines.specs.declared.line.ScenarioFault.{ScenarioFault}
use Rattle.scenario_lines.specs.declared.line.ScenarioFault.TheVariants.{Refused, NoMemory}
use Rattle.scenario_lines.specs.Lines.{is_skipped, lines_of, parts_of}
use Rattle.scenario_lines.specs.Reader.{IsTheLine}
use Rattle.scenario_lines.specs.Scenario.{IsFirstRefused, IsLine, IsRefused, IsScenario, Mean}
use Rattle.scenario_lines.specs.Tells.{Tells}

-- the lines up to the rest mean these, and no others; noted has for each signal the last line that named it
pub record ReadSoFar (mode : Mode) (signals : List SignalDecl) (text : List ℕ) (lines : List Line) (n : ℕ)
    (rest noted : List ℕ) : Type 0 where
  pub before : List (List ℕ)
  pub text_is : lines_of text ≡ before ++ lines_of rest
  pub counted : n ≡ length before
  pub means : Mean mode signals before lines
  pub only : (others : List Line) → Mean mode signals before others → others ≡ lines
  pub until : All (λ m. m ≤ n) noted
  pub room : n + length rest ≤ length text

pub start : (mode : Mode) (signals : List SignalDecl) (text noted : List ℕ) → All (λ m. m ≤ 0) noted
    → ReadSoFar mode signals text [] 0 text noted
start mode signals text noted until = record {
  before = [];
  text_is = refl;
  counted = refl;
  means = refl;
  only = λ others e. e;
  until = until;
  room = omega arith;
}

-- what one line means: nothing where it is skipped, else this one and no other
abbrev pub MeansAs : Mode → List SignalDecl → List ℕ → Option Line → Type 0
MeansAs mode signals line o =
    MatchOption o (is_skipped (parts_of line) ≡ true) (IsTheLine mode signals (parts_of line))

mean_one : (mode : Mode) (signals : List SignalDecl) (line : List ℕ) (o : Option Line)
    → MeansAs mode signals line o → Mean mode signals (line ∷ []) (option_to_list o)
mean_one mode signals line None h = inl (h, refl)
mean_one mode signals line (Some l) h = inr (h.counts, (l, [], refl, h.means, refl))

mean_push : (mode : Mode) (signals : List SignalDecl) (before : List (List ℕ)) (line : List ℕ)
    (lines : List Line) (o : Option Line) → Mean mode signals before lines → MeansAs mode signals line o
    → Mean mode signals (before ++ line ∷ []) (lines ++ option_to_list o)
mean_push mode signals [] line lines o m h =
    subst (Mean mode signals (line ∷ [])) (ap (λ ls. ls ++ option_to_list o) (sym m))
    (mean_one mode signals line o h)
mean_push mode signals (b ∷ before) line lines o m h =
    ⊎_elim
    (λ (skipped : (is_skipped (parts_of b) ≡ true) × Mean mode signals before lines).
    inl (skipped.0, mean_push mode signals before line lines o skipped.1 h))
    (λ (read : (is_skipped (parts_of b) ≡ false) × ((first : Line) × (rest : List Line)
    × (lines ≡ first ∷ rest) × IsLine mode signals (parts_of b) first × Mean mode signals before rest)).
    inr (
      read.0,
      (
        read.1.0,
        read.1.1 ++ option_to_list o,
        ap (λ ls. ls ++ option_to_list o) read.1.2,
        read.1.3,
        mean_push mode signals before line read.1.1 o read.1.4 h,
      ),
    ))
    m

-- the lines of two parts of a text
pub mean_split : (mode : Mode) (signals : List SignalDecl) (before more : List (List ℕ)) (lines : List Line)
    → Mean mode signals (before ++ more) lines
    → (front : List Line) × (back : List Line) × (lines ≡ front ++ back) × Mean mode signals before front
    × Mean mode signals more back
mean_split mode signals [] more lines m = ([], lines, refl, refl, m)
mean_split mode signals (b ∷ before) more lines m =
    ⊎_elim
    (λ (skipped : (is_skipped (parts_of b) ≡ true) × Mean mode signals (before ++ more) lines).
    let s = mean_split mode signals before more lines skipped.1 in
    (s.0, s.1, s.2, inl (skipped.0, s.3), s.4))
    (λ (read : (is_skipped (parts_of b) ≡ false) × ((first : Line) × (rest : List Line)
    × (lines ≡ first ∷ rest) × IsLine mode signals (parts_of b) first
    × Mean mode signals (before ++ more) rest)).
    let s = mean_split mode signals before more read.1.1 read.1.4 in (
      read.1.0 ∷ s.0,
      s.1,
      read.1.2 ∙ ap (λ ls. read.1.0 ∷ ls) s.2,
      inr (read.0, (read.1.0, s.0, refl, read.1.3, s.3)),
      s.4,
    ))
    m

not_both : (parts : List (List ℕ)) → is_skipped parts ≡ true → is_skipped parts ≡ false → ⊥
not_both parts skips counts = let e : true ≡ false = sym skips ∙ counts in absurd cc

one_only : (mode : Mode) (signals : List SignalDecl) (line : List ℕ) (o : Option Line) (lines : List Line)
    → MeansAs mode signals line o → Mean mode signals (line ∷ []) lines → lines ≡ option_to_list o
one_only mode signals line None lines h m =
    ⊎_elim (λ (skipped : (is_skipped (parts_of line) ≡ true) × (lines ≡ [])). skipped.1)
    (λ (read : (is_skipped (parts_of line) ≡ false) × ((first : Line) × (rest : List Line)
    × (lines ≡ first ∷ rest) × IsLine mode signals (parts_of line) first × (rest ≡ []))).
    absurd (not_both (parts_of line) h read.0)) m
one_only mode signals line (Some l) lines h m =
    ⊎_elim
    (λ (skipped : (is_skipped (parts_of line) ≡ true) × (lines ≡ [])).
    absurd (not_both (parts_of line) skipped.0 h.counts))
    (λ (read : (is_skipped (parts_of line) ≡ false) × ((first : Line) × (rest : List Line)
    × (lines ≡ first ∷ rest) × IsLine mode signals (parts_of line) first × (rest ≡ []))).
    read.1.2 ∙ ap (λ k. k ∷ read.1.1) (h.only read.1.0 read.1.3) ∙ ap (λ ls. l ∷ ls) read.1.4) m

-- one more line
pub step : (mode : Mode) (signals : List SignalDecl) (text : List ℕ) (lines : List Line) (n : ℕ)
    (rest noted line behind new : List ℕ) (o : Option Line) → lines_of rest ≡ line ∷ lines_of behind
    → length behind < length rest → MeansAs mode signals line o → All (λ m. m ≤ n + 1) new
    → ReadSoFar mode signals text lines n rest noted
    → ReadSoFar mode signals text (lines ++ option_to_list o) (n + 1) behind new
step mode signals text lines n rest noted line behind new o first shorter h until far =
    let room = far.room in
    let counted = far.counted in
    record {
      before = far.before ++ line ∷ [];
      text_is = far.text_is ∙ ap (λ ls. far.before ++ ls) first
          ∙ sym (append_assoc far.before (line ∷ []) (lines_of behind));
      counted = simp length-append (omega arith);
      means = mean_push mode signals far.before line lines o far.means h;
      only = λ others m.
          let s = mean_split mode signals far.before (line ∷ []) others m in
          s.2 ∙ ap (λ front. front ++ s.1) (far.only s.0 s.3)
          ∙ ap (λ back. lines ++ back) (one_only mode signals line o s.1 h s.4);
      until = until;
      room = omega arith;
    }

whole : (text rest : List ℕ) (before : List (List ℕ)) → rest ≡ [] → lines_of text ≡ before ++ lines_of rest
    → before ≡ lines_of text
whole text rest before none e = sym (e ∙ ap (λ r. before ++ lines_of r) none ∙ append-nil before)

-- once nothing is left
pub all_read : (mode : Mode) (signals : List SignalDecl) (text : List ℕ) (lines : List Line) (n : ℕ)
    (rest noted : List ℕ) → rest ≡ [] → ReadSoFar mode signals text lines n rest noted
    → IsScenario mode signals text lines
all_read mode signals text lines n rest noted none far =
    subst (λ ls. Mean mode signals ls lines) (whole text rest far.before none far.text_is) far.means

pub all_only : (mode : Mode) (signals : List SignalDecl) (text : List ℕ) (lines : List Line) (n : ℕ)
    (rest noted : List ℕ) (others : List Line) → rest ≡ [] → ReadSoFar mode signals text lines n rest noted
    → IsScenario mode signals text others → lines ≡ others
all_only mode signals text lines n rest noted others none far is =
    sym (far.only others (subst (λ ls. Mean mode signals ls others) (sym (whole text rest far.before none
    far.text_is)) is))

-- at a line that is refused
pub stop : (mode : Mode) (signals : List SignalDecl) (text : List ℕ) (lines : List Line) (n : ℕ)
    (rest noted line behind : List ℕ) → lines_of rest ≡ line ∷ lines_of behind
    → IsRefused mode signals line → ReadSoFar mode signals text lines n rest noted
    → IsFirstRefused mode signals text (n + 1)
stop mode signals text lines n rest noted line behind first refused far = record {
  before = far.before;
  line = line;
  behind = lines_of behind;
  lines = far.text_is ∙ ap (λ ls. far.before ++ ls) first;
  counted = ap (λ k. k + 1) far.counted;
  read = (lines, far.means);
  refused = refused;
}

-- a text with a refused line is no scenario
pub no_scenario : (mode : Mode) (signals : List SignalDecl) (text : List ℕ) (n : ℕ) (lines : List Line)
    → IsFirstRefused mode signals text n → IsScenario mode signals text lines → ⊥
no_scenario mode signals text n lines r is =
    let s = mean_split mode signals r.before (r.line ∷ r.behind) lines
    (subst (λ ls. Mean mode signals ls lines) r.lines is) in
    ⊎_elim
    (λ (skipped : (is_skipped (parts_of r.line) ≡ true) × Mean mode signals r.behind s.1).
    not_both (parts_of r.line) skipped.0 r.refused.counts)
    (λ (read : (is_skipped (parts_of r.line) ≡ false) × ((first : Line) × (rest : List Line)
    × (s.1 ≡ first ∷ rest) × IsLine mode signals (parts_of r.line) first × Mean mode signals r.behind rest)).
    r.refused.formless read.1.0 read.1.3)
    s.4

-- the fault of a line is that of the text
pub fault_at_line : (mode : Mode) (own signals : List SignalDecl) (text : List ℕ) (lines : List Line) (n : ℕ)
    (rest noted line behind : List ℕ) (fault : ScenarioFault) → own ≡ signals
    → lines_of rest ≡ line ∷ lines_of behind → ReadSoFar mode signals text lines n rest noted
    → (fault ≡ NoMemory) ⊎ ((fault ≡ Refused (n + 1)) × IsRefused mode own line)
    → (fault ≡ NoMemory) ⊎ ((fault ≡ Refused (n + 1)) × IsFirstRefused mode signals text (n + 1))
fault_at_line mode own signals text lines n rest noted line behind fault same first far why =
    ⊎_elim
    (λ (e : fault ≡ NoMemory). inl e)
    (λ (refused : (fault ≡ Refused (n + 1)) × IsRefused mode own line).
    inr (
      refused.0,
      stop mode signals text lines n rest noted line behind first
          (subst (λ s. IsRefused mode s line) same refused.1) far,
    ))
    why

number_of_fault : (fault : ScenarioFault) (n m : ℕ) → fault ≡ Refused n → fault ≡ Refused m → n ≡ m
number_of_fault fault n m e f = let both : Refused n ≡ Refused m = sym e ∙ f in cc

memory_or : (fault : ScenarioFault) (m : ℕ) → fault ≡ NoMemory → fault ≡ Refused m → ⊥
memory_or fault m e f = let both : NoMemory ≡ Refused m = sym e ∙ f in absurd cc

pub refused_at : (mode : Mode) (signals : List SignalDecl) (text : List ℕ) (n : ℕ) (fault : ScenarioFault)
    → (fault ≡ NoMemory) ⊎ ((fault ≡ Refused n) × IsFirstRefused mode signals text n) → (m : ℕ)
    → fault ≡ Refused m → IsFirstRefused mode signals text m
refused_at mode signals text n fault why m e =
    ⊎_elim (λ (none : fault ≡ NoMemory). absurd (memory_or fault m none e))
    (λ (refused : (fault ≡ Refused n) × IsFirstRefused mode signals text n).
    subst (IsFirstRefused mode signals text) (number_of_fault fault n m refused.0 e) refused.1) why

pub memory_ran_out : (mode : Mode) (signals : List SignalDecl) (text : List ℕ) (n : ℕ) (fault : ScenarioFault)
    (lines : List Line)
    → (fault ≡ NoMemory) ⊎ ((fault ≡ Refused n) × IsFirstRefused mode signals text n)
    → IsScenario mode signals text lines → fault ≡ NoMemory
memory_ran_out mode signals text n fault lines why is =
    ⊎_elim (λ (none : fault ≡ NoMemory). none)
    (λ (refused : (fault ≡ Refused n) × IsFirstRefused mode signals text n).
    absurd (no_scenario mode signals text n lines refused.1 is)) why

-- a line that is refused
pub refused_line : (mode : Mode) (signals : List SignalDecl) (line word : List ℕ) (parts : List (List ℕ))
    → parts_of line ≡ word ∷ parts → is_skipped (word ∷ parts) ≡ false
    → Tells (IsLine mode signals (word ∷ parts)) None → IsRefused mode signals line
refused_line mode signals line word parts is counts t = record {
  counts = ap is_skipped is ∙ counts;
  formless = λ l means. no_line l (t.only l (subst (λ ps. IsLine mode signals ps l) is means));
}
  where
    no_line : (l : Line) → None ≡ Some l → ⊥
    no_line l e = cc

pub read_line : (mode : Mode) (signals : List SignalDecl) (line word : List ℕ) (parts : List (List ℕ))
    (l : Line) → parts_of line ≡ word ∷ parts → is_skipped (word ∷ parts) ≡ false
    → Tells (IsLine mode signals (word ∷ parts)) (Some l) → IsTheLine mode signals (parts_of line) l
read_line mode signals line word parts l is counts t = record {
  counts = ap is_skipped is ∙ counts;
  means = subst (λ ps. IsLine mode signals ps l) (sym is) t.found;
  only = λ m means. the_same m l (t.only m (subst (λ ps. IsLine mode signals ps m) is means));
}
  where
    the_same : (x y : Line) → Some y ≡ Some x → x ≡ y
    the_same x y e = cc
