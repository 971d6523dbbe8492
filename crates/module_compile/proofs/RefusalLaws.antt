-- A refused text has one refusal: a step has one first fault, and refuses only what the steps before it take.
use Rattle.std.proofs.Common.{◌≡◌, ℕ, zero, suc, ◌+◌, true, false, Option, Some, None, List, [], ◌∷◌, ◌++◌, length, map}
use Rattle.std.proofs.Common.{Result, Err, refl, sym, ◌∙◌, ap, subst, arith, append_assoc, append-nil}
use Rattle.std.specs.Prelude.{if◌then◌else◌}
use Rattle.std.specs.Str.{is_utf8, chars, IsValidUpTo}
use Rattle.std.proofs.Math.Seq.{drop-append_seam}
use Rattle.std.proofs.lemmas.Str.{utf8_valid_len-IsUtf8, utf8_valid_len-IsValidUpTo, IsUtf8-from_is_utf8}
use Rattle.hh_base.specs.declared.value.Pos.{Pos}
use Rattle.module_token.specs.declared.fault.TokenFault.{TokenFault}
use Rattle.module_token.specs.declared.front.Front.TheVariants as front
use Rattle.module_token.specs.Front.{front_of}
use Rattle.module_token.specs.Tokens.{TextToken, HasTokens, FirstTokenFault, Tokenizes, ended, refused, passed, taken}
use Rattle.module_token.proofs.Basics.{take_seam}
use Rattle.module_token.proofs.Reading.{Next, next_of}
use Rattle.module_token.proofs.Stands.{gap_front, token_front, fault_front}
use Rattle.grammar.specs.Tokens.{Tok, Alphabet}
use Rattle.grammar.specs.Fault.{Fault, Refusal, Unexpected, EndOfText, Deep, Large, OutOfRange}
use Rattle.grammar.specs.Language.{Lang}
use Rattle.grammar.specs.Texts.{Text, Within, FaultAt, FirstFault}
use Rattle.expression_reader.specs.Terminals.{symbols}
use Rattle.module_reader.specs.declared.fault.GrammarFault.{GrammarFault}
use Rattle.module_reader.specs.declared.fault.GrammarFaultKind.{GrammarFaultKind}
use Rattle.module_reader.specs.declared.fault.GrammarFaultKind.TheVariants as k
use Rattle.module_reader.specs.declared.fault.ReadFault.{ReadFault}
use Rattle.module_reader.specs.declared.fault.ReadFault.TheVariants.{Token, Grammar, NoModule, NoMemory}
use Rattle.module_reader.specs.Reading.{fault_of, refusal_of as refusal_in_text, to_grammar, IsFirstFault}
use Rattle.module_reader.specs.Rules.{parts}
use Rattle.link_faults.specs.declared.fault.LinkFault.{LinkFault}
use Rattle.link_faults.specs.FirstFault as link
use Rattle.link_faults.specs.Faults.{is_before, earlier}
use Rattle.link_faults.proofs.EarlierLaws.{earlier_turned}
use Rattle.kernel_expand.specs.declared.fault.ExpandFault.{ExpandFault}
use Rattle.kernel_expand.specs.Expansion.{Expansion}
use Rattle.kernel_expand.specs.Refusals.{refusal_of}
use Rattle.module_compile.specs.declared.fault.ModuleFault.{ModuleFault}
use Rattle.module_compile.specs.declared.fault.ModuleFault.TheVariants.{NotUtf8, Read, Link, Expand}
use Rattle.module_compile.specs.Compiling.{HasExpansion, IsUnread, IsUnlinked, IsUnexpanded, IsRefused}
use Rattle.module_compile.proofs.CompileLaws.{one_expansion}

same_some : {A : Type 0} {x y : A} → Some x ≡ Some y → x ≡ y
same_some h = cc

-- ---- bytes

not_utf8 : (text : List ℕ) (n : ℕ) → IsValidUpTo text n → is_utf8 text ≡ true → ⊥
not_utf8 text n v utf8 =
    let short = v.short in
    let all = utf8_valid_len-IsUtf8 text (IsUtf8-from_is_utf8 text utf8) in
    let front = utf8_valid_len-IsValidUpTo text n v in
    omega arith

one_front : (text : List ℕ) (p q : Pos) → IsValidUpTo text p.0 → IsValidUpTo text q.0 → p ≡ q
one_front text p q a b =
    ap (λ n. record { 0 = n }) (sym (utf8_valid_len-IsValidUpTo text p.0 a) ∙ utf8_valid_len-IsValidUpTo text q.0 b)

-- ---- tokens

front_nothing : front_of [] ≡ front.End
unfolding front_of chars
front_nothing = refl

-- a text is read in one way
one_reading : {at : ℕ} {text : List ℕ} {ts us : List TextToken} {end other : Option TokenFault}
    → Tokenizes at text ts end → Tokenizes at text us other → (us ≡ ts) × (other ≡ end)
one_reading {at} {us = us} {other = other} (ended) again = subst (Next at [] us other) front_nothing (next_of again)
one_reading {at} {text} {us = us} {other = other} (refused n kind h) again =
    subst (Next at text us other) (fault_front kind text n h) (next_of again)
one_reading {at} {us = us} {other = other} (passed gap rest h more) again =
    let next = subst (Next at (gap ++ rest) us other) (gap_front gap rest h) (next_of again) in
    one_reading more (subst (λ l. Tokenizes (at + length gap) l us other) (drop-append_seam gap rest) next)
one_reading {at} {us = us} {other = other} (taken text rest what h more) again =
    let next = subst (Next at (text ++ rest) us other) (token_front text what rest h) (next_of again) in
    let behind = one_reading more (subst (λ l. Tokenizes (at + length text) l next.0 other) (drop-append_seam text rest) next.2) in (
      next.1 ∙ ap (λ l. record { place = at; what = what; text = l } ∷ next.0) (take_seam text rest)
          ∙ ap (λ l. record { place = at; what = what; text = text } ∷ l) behind.0,
      behind.1,
    )

tokens_or_fault : (text : List ℕ) (ts : List TextToken) (f : TokenFault) → HasTokens text ts → FirstTokenFault text f → ⊥
tokens_or_fault text ts f has (us, again) = let none : Some f ≡ None = (one_reading has again).1 in cc

one_token_fault : (text : List ℕ) (f g : TokenFault) → FirstTokenFault text f → FirstTokenFault text g → f ≡ g
one_token_fault text f g (ts, first) (us, again) = sym (same_some (one_reading first again).1)

-- ---- grammar

-- the kind of a fault of the grammar
abbrev kind_of : Fault → GrammarFaultKind
kind_of (OutOfRange zero most) = k.NumberLarge
kind_of (OutOfRange (suc least) most) = k.BadCount
kind_of Unexpected = k.Unexpected
kind_of EndOfText = k.EndOfText
kind_of Deep = k.DeepNesting
kind_of Large = k.ExprLarge

kind_back : (a : GrammarFaultKind) → kind_of (fault_of a) ≡ a
kind_back k.NumberLarge = refl
kind_back k.Unexpected = refl
kind_back k.EndOfText = refl
kind_back k.DeepNesting = refl
kind_back k.ExprLarge = refl
kind_back k.BadCount = refl

one_place : (f g : GrammarFault) → refusal_in_text f ≡ refusal_in_text g → f ≡ g
one_place f g same =
    let kind : f.kind ≡ g.kind = sym (kind_back f.kind) ∙ ap (λ (r : Refusal). kind_of r.fault) same ∙ kind_back g.kind in
    ap (λ n. record { pos = record { 0 = n }; kind = f.kind }) (ap (λ (r : Refusal). r.place) same)
    ∙ ap (λ a. record { pos = g.pos; kind = a }) kind

same_refusal : {A : Type 0} (outcome : Result A Refusal) (r s : Refusal) → outcome ≡ Err r → outcome ≡ Err s → r ≡ s
same_refusal outcome r s a b = cc

module _ {K A : Type 0} (al : Alphabet K) (texts : ℕ → Lang K A) (tree : A) where
  a_text : (ts : List (Tok K)) → Within al texts tree ts → Text al texts tree ts
  a_text ts y =
      let same : al.most_open ≡ al.most_open + 0 = omega arith in
      (y.0, (0, subst (λ n. texts n tree ts y.0) same y.1))

  parted : (before : List (Tok K)) (t : Tok K) (after : List (Tok K)) → Within al texts tree (before ++ t ∷ after)
      → Within al texts tree ((before ++ t ∷ []) ++ after)
  parted before t after y = subst (Within al texts tree) (sym (append_assoc before (t ∷ []) after)) y

  -- what has a tree has no fault
  fault_or_tree : (fault : Fault) (before after : List (Tok K)) → FaultAt al texts fault before after
      → Within al texts tree (before ++ after) → ⊥
  fault_or_tree Unexpected before [] h y = h
  fault_or_tree Unexpected before (t ∷ after) h y = h.1 (tree, after, a_text _ (parted before t after y))
  fault_or_tree EndOfText before [] h y = h.1 tree (a_text before (subst (Within al texts tree) (append-nil before) y))
  fault_or_tree EndOfText before (t ∷ after) h y = h
  fault_or_tree Deep before [] h y = h
  fault_or_tree Deep before (t ∷ after) h y = let z = parted before t after y in h.3 tree after (z.0, z.1)
  fault_or_tree Large before [] h y = h
  fault_or_tree Large before (t ∷ after) h y = h.1 tree after (parted before t after y)
  fault_or_tree (OutOfRange least most) before [] h y = h
  fault_or_tree (OutOfRange least most) before (t ∷ after) h y =
      (h.1 t refl).1 h.0 (tree, after, a_text _ (parted before t after y))

  first_or_tree : (size : ℕ) (ts : List (Tok K)) (r : Refusal) → FirstFault al texts size ts r
      → Within al texts tree ts → ⊥
  first_or_tree size ts r (before, after, split, stands, clean, fault) y =
      fault_or_tree r.fault before after fault (subst (Within al texts tree) split y)

-- a text with a fault of the grammar is not read to its end
fault_or_end : (text : List ℕ) (f : GrammarFault) → IsFirstFault text (Grammar f) → IsFirstFault text NoModule → ⊥
fault_or_end text f (ts, has, fault) (us, again, none) =
    let same : us ≡ ts = (one_reading has again).0 in
    first_or_tree symbols parts none.tree (length text) (map to_grammar ts) (refusal_in_text f) fault.inside
    (subst (λ l. Within symbols parts none.tree (map to_grammar l)) same none.spells)

-- ---- the first fault of a text that is not read

one_unread : (text : List ℕ) (f g : ReadFault) → IsUnread text f → IsUnread text g → f ≡ g
one_unread text NoMemory g a b = absurd (a.a_fault refl)
one_unread text (Token f) (Token g) a b = ap Token (one_token_fault text f g a.first b.first)
one_unread text (Token f) (Grammar g) a b =
    let first = b.first in absurd (tokens_or_fault text first.0 f first.1 a.first)
one_unread text (Token f) NoModule a b =
    let first = b.first in absurd (tokens_or_fault text first.0 f first.1 a.first)
one_unread text (Token f) NoMemory a b = absurd (b.a_fault refl)
one_unread text (Grammar f) (Token g) a b =
    let first = a.first in absurd (tokens_or_fault text first.0 g first.1 b.first)
one_unread text (Grammar f) (Grammar g) a b =
    let first = a.first in
    ap Grammar (one_place f g (same_refusal _ _ _ (a.by_rule first.0 first.1) (b.by_rule first.0 first.1)))
one_unread text (Grammar f) NoModule a b = absurd (fault_or_end text f a.first b.first)
one_unread text (Grammar f) NoMemory a b = absurd (b.a_fault refl)
one_unread text NoModule (Token g) a b =
    let first = a.first in absurd (tokens_or_fault text first.0 g first.1 b.first)
one_unread text NoModule (Grammar g) a b = absurd (fault_or_end text g b.first a.first)
one_unread text NoModule NoModule a b = refl
one_unread text NoModule NoMemory a b = absurd (b.a_fault refl)

-- ---- names, kinds and runs

-- of two faults one is before the other
neither_before : (f g : LinkFault) → is_before f g ≡ false → is_before g f ≡ false → f ≡ g
neither_before f g fg gf =
    let left : earlier (Some f) (Some g) ≡ Some f = ap (λ t. Some (if t then g else f)) gf in
    let right : earlier (Some g) (Some f) ≡ Some g = ap (λ t. Some (if t then f else g)) fg in
    same_some (sym left ∙ earlier_turned (Some f) (Some g) ∙ right)

one_unlinked : (text : List ℕ) (f g : LinkFault) → IsUnlinked text f → IsUnlinked text g → f ≡ g
one_unlinked text f g a b =
    let same = a.read.only b.tree b.read.has in
    let again : link.IsFirstFault a.tree g = subst (λ t. link.IsFirstFault t g) same b.first in
    neither_before f g (again.first f a.first.found) (a.first.first g again.found)

linked_or_not : (text : List ℕ) (f : LinkFault) (x : Expansion) → IsUnlinked text f → HasExpansion text x → ⊥
linked_or_not text f x a b =
    b.faultless f.kind f.pos (subst (λ t. link.HasFault t f.kind f.pos) (b.read.only a.tree a.read.has) a.first.found)

-- ---- limits

one_unexpanded : (text : List ℕ) (f g : ExpandFault) → IsUnexpanded text f → IsUnexpanded text g → f ≡ g
one_unexpanded text f g a b =
    same_some (sym a.first ∙ ap refusal_of (one_expansion text a.expansion b.expansion a.linked b.linked) ∙ b.first)

-- ---- all steps

pub one_refusal : (text : List ℕ) (f g : ModuleFault) → IsRefused text f → IsRefused text g → f ≡ g
one_refusal text (NotUtf8 p) (NotUtf8 q) a b = ap NotUtf8 (one_front text p q a b)
one_refusal text (NotUtf8 p) (Read g) a b = absurd (not_utf8 text p.0 a b.utf8)
one_refusal text (NotUtf8 p) (Link g) a b = absurd (not_utf8 text p.0 a b.read.utf8)
one_refusal text (NotUtf8 p) (Expand g) a b = absurd (not_utf8 text p.0 a b.linked.read.utf8)
one_refusal text (Read f) (NotUtf8 q) a b = absurd (not_utf8 text q.0 b a.utf8)
one_refusal text (Read f) (Read g) a b = ap Read (one_unread text f g a b)
one_refusal text (Read f) (Link g) a b = absurd (a.none b.tree b.read.has)
one_refusal text (Read f) (Expand g) a b = absurd (a.none b.linked.tree b.linked.read.has)
one_refusal text (Link f) (NotUtf8 q) a b = absurd (not_utf8 text q.0 b a.read.utf8)
one_refusal text (Link f) (Read g) a b = absurd (b.none a.tree a.read.has)
one_refusal text (Link f) (Link g) a b = ap Link (one_unlinked text f g a b)
one_refusal text (Link f) (Expand g) a b = absurd (linked_or_not text f b.expansion a b.linked)
one_refusal text (Expand f) (NotUtf8 q) a b = absurd (not_utf8 text q.0 b a.linked.read.utf8)
one_refusal text (Expand f) (Read g) a b = absurd (b.none a.linked.tree a.linked.read.has)
one_refusal text (Expand f) (Link g) a b = absurd (linked_or_not text g a.expansion b a.linked)
one_refusal text (Expand f) (Expand g) a b = ap Expand (one_unexpanded text f g a b)
