-- The forms of lines, by their commands.
use Rattle.std.proofs.Common.{◌≡◌, ℕ, Bool, true, false, Some, None, List, [], ◌∷◌, refl, sym, ap, ◌∙◌}
use Rattle.std.proofs.Common.{subst}
use Rattle.std.specs.Prelude.{codes, IsTrue, ◌↔◌}
use Rattle.std.specs.Bool.{then_some}
use Rattle.std.specs.Str.{bytes_eq}
use Rattle.std.proofs.lemmas.Slice.Eq.{bytes_eq-Decides}
use Rattle.hh_base.specs.declared.value.Value.{Value}
use Rattle.hh_term.specs.declared.program.SignalDecl.{SignalDecl}
use Rattle.exec_instance.specs.declared.answer.Answer.{Answer}
use Rattle.reaction_run.specs.declared.event.Input.{Input}
use Rattle.scenario_lines.specs.declared.command.Command.{Command}
use Rattle.scenario_lines.specs.declared.command.Command.TheVariants as command
use Rattle.scenario_lines.specs.declared.line.Line.{Line}
use Rattle.scenario_lines.specs.declared.line.Line.TheVariants.{React, Work, Notify, Reset, Settle}
use Rattle.scenario_lines.specs.declared.line.Mode.{Mode}
use Rattle.scenario_lines.specs.declared.line.Mode.TheVariants.{Play, Serve}
use Rattle.scenario_lines.specs.Literals.{IsId, IsValue}
use Rattle.scenario_lines.specs.Lines.{parts_of}
use Rattle.scenario_lines.specs.Reader.{AreTwo, IsOne, command_word}
use Rattle.scenario_lines.specs.Scenario.{AreInputs, IsLine, answer_word}
use Rattle.scenario_lines.specs.Tells.{Tells}

abbrev Parts : Type 0
Parts = List (List ℕ)

tails : (word : List ℕ) (a b : Parts) → word ∷ a ≡ word ∷ b → a ≡ b
tails word a b e = cc

head : (a b : List ℕ) (x y : Parts) → a ∷ x ≡ b ∷ y → a ≡ b
head a b x y e = cc

-- words that differ
apart : (a b : List ℕ) → bytes_eq a b ≡ false → (x y : Parts) → a ∷ x ≡ b ∷ y → ⊥
apart a b differ x y e =
    let same : bytes_eq a b ≡ true = (bytes_eq-Decides a b).1 (head a b x y e) in
    let no : false ≡ true = sym differ ∙ same in
    cc

some_none : {X : Type 0} (x : X) → None ≡ Some x → ⊥
some_none x e = cc

the_same : {X : Type 0} (x y : X) → Some x ≡ Some y → x ≡ y
the_same x y e = cc

-- `react`
no_react_answer : (last : Bool) (a b : Parts) → codes "react" ∷ a ≡ answer_word last ∷ b → ⊥
no_react_answer true a b e = apart (codes "react") (codes "notify") refl a b e
no_react_answer false a b e = apart (codes "react") (codes "more") refl a b e

pub of_react : (mode : Mode) (signals : List SignalDecl) (rest : Parts) (l : Line)
    → IsLine mode signals (codes "react" ∷ rest) l
    → (inputs : List Input) × (l ≡ React inputs) × AreInputs signals rest inputs
of_react mode signals rest (React inputs) h =
    (inputs, refl, subst (λ ps. AreInputs signals ps inputs) (sym (tails (codes "react") rest h.0 h.1)) h.2)
of_react mode signals rest (Work id) h = absurd (apart (codes "react") (codes "work") refl rest (h.1 ∷ []) h.2)
of_react mode signals rest (Notify a) h =
    absurd (no_react_answer a.last rest (h.0 ∷ h.1 ∷ []) h.2)
of_react mode signals rest Reset h = absurd (apart (codes "react") (codes "reset") refl rest [] h)
of_react mode signals rest Settle h = absurd (apart (codes "react") (codes "settle") refl rest [] h.1)

pub react_found : (mode : Mode) (signals : List SignalDecl) (rest : Parts) (inputs : List Input)
    → Tells (AreInputs signals rest) (Some inputs)
    → Tells (IsLine mode signals (codes "react" ∷ rest)) (Some (React inputs))
react_found mode signals rest inputs t = record {
  found = (rest, refl, t.found);
  only = λ l is.
      let o = of_react mode signals rest l is in
      ap Some (ap React (the_same inputs o.0 (t.only o.0 o.2)) ∙ sym o.1);
}

pub react_none : (mode : Mode) (signals : List SignalDecl) (rest : Parts) → Tells (AreInputs signals rest) None
    → Tells (IsLine mode signals (codes "react" ∷ rest)) None
react_none mode signals rest t = record {
  found = tt;
  only = λ l is. let o = of_react mode signals rest l is in absurd (some_none o.0 (t.only o.0 o.2));
}

-- `work`
no_work_answer : (last : Bool) (a b : Parts) → codes "work" ∷ a ≡ answer_word last ∷ b → ⊥
no_work_answer true a b e = apart (codes "work") (codes "notify") refl a b e
no_work_answer false a b e = apart (codes "work") (codes "more") refl a b e

pub of_work : (mode : Mode) (signals : List SignalDecl) (rest : Parts) (l : Line)
    → IsLine mode signals (codes "work" ∷ rest) l
    → (id : ℕ) × (digits : List ℕ) × (l ≡ Work id) × (mode ≡ Play) × (rest ≡ digits ∷ []) × IsId digits id
of_work mode signals rest (React inputs) h = absurd (apart (codes "work") (codes "react") refl rest h.0 h.1)
of_work mode signals rest (Work id) h =
    (id, h.1, refl, h.0, tails (codes "work") rest (h.1 ∷ []) h.2, h.3)
of_work mode signals rest (Notify a) h = absurd (no_work_answer a.last rest (h.0 ∷ h.1 ∷ []) h.2)
of_work mode signals rest Reset h = absurd (apart (codes "work") (codes "reset") refl rest [] h)
of_work mode signals rest Settle h = absurd (apart (codes "work") (codes "settle") refl rest [] h.1)

pub work_served : (mode : Mode) (signals : List SignalDecl) (rest : Parts) → mode ≡ Serve
    → Tells (IsLine mode signals (codes "work" ∷ rest)) None
work_served mode signals rest serve = record {
  found = tt;
  only = λ l is.
      let o = of_work mode signals rest l is in let no : Serve ≡ Play = sym serve ∙ o.3 in absurd cc;
}

pub work_alone : (mode : Mode) (signals : List SignalDecl) (line : List ℕ) → ((p : List ℕ) → IsOne line p → ⊥)
    → Tells (IsLine mode signals (codes "work" ∷ parts_of line)) None
work_alone mode signals line none = record {
  found = tt;
  only = λ l is. let o = of_work mode signals (parts_of line) l is in absurd (none o.1 o.4);
}

first_part : (a b : List ℕ) → a ∷ [] ≡ b ∷ [] → a ≡ b
first_part a b e = cc

pub work_no_id : (mode : Mode) (signals : List SignalDecl) (line digits : List ℕ) → IsOne line digits
    → ((n : ℕ) → IsId digits n → None ≡ Some n)
    → Tells (IsLine mode signals (codes "work" ∷ parts_of line)) None
work_no_id mode signals line digits one none = record {
  found = tt;
  only = λ l is.
      let o = of_work mode signals (parts_of line) l is in
      let same = first_part o.1 digits (sym o.4 ∙ one) in
      absurd (some_none o.0 (none o.0 (subst (λ d. IsId d o.0) same o.5)));
}

pub work_found : (mode : Mode) (signals : List SignalDecl) (line digits : List ℕ) (id : ℕ) → mode ≡ Play
    → IsOne line digits → IsId digits id → ((n : ℕ) → IsId digits n → Some id ≡ Some n)
    → Tells (IsLine mode signals (codes "work" ∷ parts_of line)) (Some (Work id))
work_found mode signals line digits id play one is_id only = record {
  found = (play, digits, ap (λ ps. codes "work" ∷ ps) one, is_id);
  only = λ l is.
      let o = of_work mode signals (parts_of line) l is in
      let same = first_part o.1 digits (sym o.4 ∙ one) in
      ap Some (ap Work (the_same id o.0 (only o.0 (subst (λ d. IsId d o.0) same o.5))) ∙ sym o.2);
}

-- `notify` and `more`
no_answer_react : (last : Bool) (a b : Parts) → answer_word last ∷ a ≡ codes "react" ∷ b → ⊥
no_answer_react last a b e = no_react_answer last b a (sym e)

no_answer_work : (last : Bool) (a b : Parts) → answer_word last ∷ a ≡ codes "work" ∷ b → ⊥
no_answer_work last a b e = no_work_answer last b a (sym e)

no_answer_reset : (last : Bool) (a b : Parts) → answer_word last ∷ a ≡ codes "reset" ∷ b → ⊥
no_answer_reset true a b e = apart (codes "notify") (codes "reset") refl a b e
no_answer_reset false a b e = apart (codes "more") (codes "reset") refl a b e

no_answer_settle : (last : Bool) (a b : Parts) → answer_word last ∷ a ≡ codes "settle" ∷ b → ⊥
no_answer_settle true a b e = apart (codes "notify") (codes "settle") refl a b e
no_answer_settle false a b e = apart (codes "more") (codes "settle") refl a b e

same_last : (x y : Bool) (a b : Parts) → answer_word x ∷ a ≡ answer_word y ∷ b → (x ≡ y) × (a ≡ b)
same_last true true a b e = (refl, tails (codes "notify") a b e)
same_last true false a b e = absurd (apart (codes "notify") (codes "more") refl a b e)
same_last false true a b e = absurd (apart (codes "more") (codes "notify") refl a b e)
same_last false false a b e = (refl, tails (codes "more") a b e)

pub of_answer : (mode : Mode) (signals : List SignalDecl) (last : Bool) (rest : Parts) (l : Line)
    → IsLine mode signals (answer_word last ∷ rest) l
    → (a : Answer) × (digits : List ℕ) × (literal : List ℕ) × (l ≡ Notify a) × (a.last ≡ last)
    × (rest ≡ digits ∷ literal ∷ []) × IsId digits a.id × IsValue literal a.value
of_answer mode signals last rest (React inputs) h = absurd (no_answer_react last rest h.0 h.1)
of_answer mode signals last rest (Work id) h = absurd (no_answer_work last rest (h.1 ∷ []) h.2)
of_answer mode signals last rest (Notify a) h =
    let same = same_last last a.last rest (h.0 ∷ h.1 ∷ []) h.2 in
    (a, h.0, h.1, refl, sym same.0, same.1, h.3, h.4)
of_answer mode signals last rest Reset h = absurd (no_answer_reset last rest [] h)
of_answer mode signals last rest Settle h = absurd (no_answer_settle last rest [] h.1)

pub answer_parts : (mode : Mode) (signals : List SignalDecl) (last : Bool) (line : List ℕ)
    → ((p q : List ℕ) → AreTwo line p q → ⊥)
    → Tells (IsLine mode signals (answer_word last ∷ parts_of line)) None
answer_parts mode signals last line none = record {
  found = tt;
  only = λ l is. let o = of_answer mode signals last (parts_of line) l is in absurd (none o.1 o.2 o.5);
}

both_parts : (a b c d : List ℕ) → a ∷ b ∷ [] ≡ c ∷ d ∷ [] → (a ≡ c) × (b ≡ d)
both_parts a b c d e = let f : a ≡ c = cc in let g : b ≡ d = cc in (f, g)

pub answer_no_id : (mode : Mode) (signals : List SignalDecl) (last : Bool) (line digits literal : List ℕ)
    → AreTwo line digits literal → ((n : ℕ) → IsId digits n → None ≡ Some n)
    → Tells (IsLine mode signals (answer_word last ∷ parts_of line)) None
answer_no_id mode signals last line digits literal two none = record {
  found = tt;
  only = λ l is.
      let o = of_answer mode signals last (parts_of line) l is in
      let same = both_parts o.1 o.2 digits literal (sym o.5 ∙ two) in
      absurd (some_none o.0.id (none o.0.id (subst (λ d. IsId d o.0.id) same.0 o.6)));
}

pub answer_no_value : (mode : Mode) (signals : List SignalDecl) (last : Bool) (line digits literal : List ℕ)
    → AreTwo line digits literal → ((v : Value) → IsValue literal v → None ≡ Some v)
    → Tells (IsLine mode signals (answer_word last ∷ parts_of line)) None
answer_no_value mode signals last line digits literal two none = record {
  found = tt;
  only = λ l is.
      let o = of_answer mode signals last (parts_of line) l is in
      let same = both_parts o.1 o.2 digits literal (sym o.5 ∙ two) in
      absurd (some_none o.0.value (none o.0.value (subst (λ d. IsValue d o.0.value) same.1 o.7)));
}

pub answer_found : (mode : Mode) (signals : List SignalDecl) (last : Bool) (line digits literal : List ℕ)
    (id : ℕ) (v : Value) → AreTwo line digits literal → IsId digits id
    → ((n : ℕ) → IsId digits n → Some id ≡ Some n) → IsValue literal v
    → ((w : Value) → IsValue literal w → Some v ≡ Some w)
    → Tells (IsLine mode signals (answer_word last ∷ parts_of line))
    (Some (Notify (record { id = id; value = v; last = last })))
answer_found mode signals last line digits literal id v two is_id only_id is_value only_value = record {
  found = (digits, literal, ap (λ ps. answer_word last ∷ ps) two, is_id, is_value);
  only = λ l is.
      let o = of_answer mode signals last (parts_of line) l is in
      let same = both_parts o.1 o.2 digits literal (sym o.5 ∙ two) in
      let ids = the_same id o.0.id (only_id o.0.id (subst (λ d. IsId d o.0.id) same.0 o.6)) in
      let values = the_same v o.0.value (only_value o.0.value (subst (λ d. IsValue d o.0.value) same.1 o.7)) in
      let lasts : last ≡ o.0.last = sym o.4 in
      let answers : record { id = id; value = v; last = last } ≡ o.0 =
      λ i. record { id = ids i; value = values i; last = lasts i } in
      ap Some (ap Notify answers ∙ sym o.3);
}

-- `reset`
no_reset_answer : (last : Bool) (a b : Parts) → codes "reset" ∷ a ≡ answer_word last ∷ b → ⊥
no_reset_answer last a b e = no_answer_reset last b a (sym e)

pub of_reset : (mode : Mode) (signals : List SignalDecl) (rest : Parts) (l : Line)
    → IsLine mode signals (codes "reset" ∷ rest) l → (l ≡ Reset) × (rest ≡ [])
of_reset mode signals rest (React inputs) h = absurd (apart (codes "reset") (codes "react") refl rest h.0 h.1)
of_reset mode signals rest (Work id) h = absurd (apart (codes "reset") (codes "work") refl rest (h.1 ∷ []) h.2)
of_reset mode signals rest (Notify a) h = absurd (no_reset_answer a.last rest (h.0 ∷ h.1 ∷ []) h.2)
of_reset mode signals rest Reset h = (refl, tails (codes "reset") rest [] h)
of_reset mode signals rest Settle h = absurd (apart (codes "reset") (codes "settle") refl rest [] h.1)

pub reset_found : (mode : Mode) (signals : List SignalDecl) (rest : Parts) → rest ≡ []
    → Tells (IsLine mode signals (codes "reset" ∷ rest)) (Some Reset)
reset_found mode signals rest none = record {
  found = ap (λ ps. codes "reset" ∷ ps) none;
  only = λ l is. ap Some (sym (of_reset mode signals rest l is).0);
}

pub reset_none : (mode : Mode) (signals : List SignalDecl) (rest : Parts) → (rest ≡ [] → ⊥)
    → Tells (IsLine mode signals (codes "reset" ∷ rest)) None
reset_none mode signals rest some = record {
  found = tt;
  only = λ l is. absurd (some (of_reset mode signals rest l is).1);
}

-- `settle`
no_settle_answer : (last : Bool) (a b : Parts) → codes "settle" ∷ a ≡ answer_word last ∷ b → ⊥
no_settle_answer last a b e = no_answer_settle last b a (sym e)

pub of_settle : (mode : Mode) (signals : List SignalDecl) (rest : Parts) (l : Line)
    → IsLine mode signals (codes "settle" ∷ rest) l → (l ≡ Settle) × (mode ≡ Serve) × (rest ≡ [])
of_settle mode signals rest (React inputs) h = absurd (apart (codes "settle") (codes "react") refl rest h.0 h.1)
of_settle mode signals rest (Work id) h = absurd (apart (codes "settle") (codes "work") refl rest (h.1 ∷ []) h.2)
of_settle mode signals rest (Notify a) h = absurd (no_settle_answer a.last rest (h.0 ∷ h.1 ∷ []) h.2)
of_settle mode signals rest Reset h = absurd (apart (codes "settle") (codes "reset") refl rest [] h)
of_settle mode signals rest Settle h = (refl, h.0, tails (codes "settle") rest [] h.1)

pub settle_played : (mode : Mode) (signals : List SignalDecl) (rest : Parts) → mode ≡ Play
    → Tells (IsLine mode signals (codes "settle" ∷ rest)) None
settle_played mode signals rest play = record {
  found = tt;
  only = λ l is.
      let o = of_settle mode signals rest l is in let no : Play ≡ Serve = sym play ∙ o.1 in absurd cc;
}

pub settle_found : (mode : Mode) (signals : List SignalDecl) (rest : Parts) → mode ≡ Serve → rest ≡ []
    → Tells (IsLine mode signals (codes "settle" ∷ rest)) (Some Settle)
settle_found mode signals rest serve none = record {
  found = (serve, ap (λ ps. codes "settle" ∷ ps) none);
  only = λ l is. ap Some (sym (of_settle mode signals rest l is).0);
}

pub settle_none : (mode : Mode) (signals : List SignalDecl) (rest : Parts) → (rest ≡ [] → ⊥)
    → Tells (IsLine mode signals (codes "settle" ∷ rest)) None
settle_none mode signals rest some = record {
  found = tt;
  only = λ l is. absurd (some (of_settle mode signals rest l is).2);
}

-- a line begins with a command
answer_command : (last : Bool) → (c : Command) × (answer_word last ≡ command_word c)
answer_command true = (command.Notify, refl)
answer_command false = (command.More, refl)

pub of_line : (mode : Mode) (signals : List SignalDecl) (word : List ℕ) (rest : Parts) (l : Line)
    → IsLine mode signals (word ∷ rest) l → (c : Command) × (word ≡ command_word c)
of_line mode signals word rest (React inputs) h = (command.React, head word (codes "react") rest h.0 h.1)
of_line mode signals word rest (Work id) h = (command.Work, head word (codes "work") rest (h.1 ∷ []) h.2)
of_line mode signals word rest (Notify a) h =
    let c = answer_command a.last in
    (c.0, head word (answer_word a.last) rest (h.0 ∷ h.1 ∷ []) h.2 ∙ c.1)
of_line mode signals word rest Reset h = (command.Reset, head word (codes "reset") rest [] h)
of_line mode signals word rest Settle h = (command.Settle, head word (codes "settle") rest [] h.1)

pub no_command : (mode : Mode) (signals : List SignalDecl) (word : List ℕ) (rest : Parts)
    → ((c : Command) → word ≡ command_word c → None ≡ Some c) → Tells (IsLine mode signals (word ∷ rest)) None
no_command mode signals word rest none = record {
  found = tt;
  only = λ l is. let o = of_line mode signals word rest l is in absurd (some_none o.0 (none o.0 o.1));
}

-- of two modes
pub plays : (m : Mode) → (m ≡ Serve → ⊥) → m ≡ Play
plays Play other = refl
plays Serve other = absurd (other refl)

pub serves : (m : Mode) → (m ≡ Play → ⊥) → m ≡ Serve
serves Play other = absurd (other refl)
serves Serve other = refl

pub reset_read : (mode : Mode) (signals : List SignalDecl) (rest : Parts) (b : Bool)
    → IsTrue b ↔ (rest ≡ []) → Tells (IsLine mode signals (codes "reset" ∷ rest)) (then_some b Reset)
reset_read mode signals rest true h = reset_found mode signals rest (h.0 refl)
reset_read mode signals rest false h =
    reset_none mode signals rest (λ e. let no : false ≡ true = h.1 e in absurd cc)

pub settle_read : (mode : Mode) (signals : List SignalDecl) (rest : Parts) (b : Bool) → mode ≡ Serve
    → IsTrue b ↔ (rest ≡ []) → Tells (IsLine mode signals (codes "settle" ∷ rest)) (then_some b Settle)
settle_read mode signals rest true serve h = settle_found mode signals rest serve (h.0 refl)
settle_read mode signals rest false serve h =
    settle_none mode signals rest (λ e. let no : false ≡ true = h.1 e in absurd cc)
