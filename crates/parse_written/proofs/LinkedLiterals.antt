-- A tree with its literals is written where the tree without them is.
use Rattle.std.proofs.Common.{◌≡◌, ℕ, zero, suc, ◌+◌, ◌-◌, Bool, true, false, cond, ◌&&◌, ◌||◌, List, [], ◌∷◌, ◌++◌, map, Option, None, Some, length, take, drop, refl, sym}
use Rattle.std.proofs.Common.{◌<◌, arith, ap, ap₂, ◌∙◌, subst, append_assoc}
use Rattle.parse_written.proofs.Prelude.{append-nil, AreCodes, AreWritten, AsCall, AsLeaf, AsLinked, AsSpan, both_ways, codes_of, cond_both, Data, EndNoLine}
use Rattle.parse_written.proofs.Prelude.{ends_here, eqb-true, Image, InlineCode, InlineContext, InlineLeaf, Inlines, IsLeafWritten, Leaf, length-append, Link}
use Rattle.parse_written.proofs.Prelude.{Literal, LiteralKind, More, Nil, Nothing, Spaces, Span, take-append-drop, with_literals, ◌==◌}
use Rattle.parse_written.proofs.Prelude.{and_parts, bytes_eq-Decides, codes, nat_le, where_passed, WhereSome}
use Rattle.std.specs.List.{list_all, list_any, suffix_len}
use Rattle.std.proofs.Math.Seq.{drop-length}
use Rattle.std.proofs.lemmas.Bool.{or_right}
use Rattle.std.proofs.lemmas.List.{drop_at, length-take}
use Rattle.std.proofs.lemmas.List.Folds.{list_all-append, list_any-append}
use Rattle.definition_inline.specs.GfmAutolinkLiteral.{Address, address_at, address_parts, address_or_text, parts_from, with_addresses, parts_before}
use Rattle.definition_inline.specs.GfmAutolinkLiteral.{leaf_without, without_literals, addresses_before, address_of, address_with, ends_with}
use Rattle.definition_inline.specs.GfmAutolinkLiteral.{ends_with_protocol, host_size, is_host, is_host_code, is_user_byte, user_size, without_last}
use Rattle.definition_inline.specs.Inline.{Linked, Call, Cons, Email, Protocol}
use Rattle.event_tokens.specs.Tokens.{is_address, is_link_byte}
use Rattle.parse_written.specs.Written.{is_literal}
use Rattle.parse_written.proofs.Codes.{codes_both, codes_split}
use Rattle.parse_written.proofs.GfmAutolinkLiteral.{inline_both, inline_front, inline_back, link_code}
use Rattle.parse_written.proofs.Passed.{last_all}
use Rattle.parse_written.proofs.LineEnds.{spaces_end, text_first}

-- ---- leaves that are written as their text

-- bytes and literals, and their whole text
pub data Spell : List InlineLeaf → List ℕ → Type 0 where
  NoLeaf : Spell [] []
  OneByte : (b : ℕ) (ls : List InlineLeaf) (text : List ℕ) → Spell ls text → Spell (Data b ∷ ls) (b ∷ text)
  OneLiteral : (kind : LiteralKind) (front : List ℕ) (ls : List InlineLeaf) (text : List ℕ) → 0 < length front → is_literal kind front ≡ true
      → Spell ls text → Spell (Literal kind front ∷ ls) (front ++ text)

spell_both : (ls ms : List InlineLeaf) (xs ys : List ℕ) → Spell ls xs → Spell ms ys → Spell (ls ++ ms) (xs ++ ys)
spell_both _ ms _ ys NoLeaf q = q
spell_both _ ms _ ys (OneByte b ls text p) q = OneByte b (ls ++ ms) (text ++ ys) (spell_both ls ms text ys p q)
spell_both _ ms _ ys (OneLiteral kind front ls text some form p) q =
    subst (Spell (Literal kind front ∷ (ls ++ ms))) (sym (append_assoc front text ys))
    (OneLiteral kind front (ls ++ ms) (text ++ ys) some form (spell_both ls ms text ys p q))

spell_bytes : (text : List ℕ) → Spell (map Data text) text
spell_bytes [] = NoLeaf
spell_bytes (b ∷ bs) = OneByte b (map Data bs) bs (spell_bytes bs)

-- ---- addresses

-- the text of an address
abbrev address_text : List ℕ → List ℕ → Address → List ℕ
address_text before after found = drop (length before - found.before) before ++ 64 ∷ take found.after after

abbrev IsFormed : List ℕ → List ℕ → Address → Type 0
IsFormed before after found = is_literal found.kind (address_text before after found) ≡ true

user_links : (xs : List ℕ) → list_all is_user_byte xs ≡ true → list_all is_link_byte xs ≡ true
user_links [] all = refl
user_links (x ∷ xs) all =
    let parts = and_parts (is_user_byte x) (list_all is_user_byte xs) all in
    ap₂ (λ (s t : Bool). s && t) (link_code is_user_byte refl refl refl refl refl refl refl x parts.0) (user_links xs parts.1)

-- the codes of a user before an `@`
user_name_links : (before : List ℕ) → list_all is_link_byte (drop (length before - user_size before) before) ≡ true
user_name_links before =
    let size = suffix_len is_user_byte before in
    cond_both (ends_with (codes "/") (without_last size before)) 0 size (λ n. list_all is_link_byte (drop (length before - n) before) ≡ true)
    (λ _. ap (list_all is_link_byte) (drop_all before (length before - 0) (omega arith))) (λ _. user_links (drop (length before - size) before) (last_all is_user_byte before))
  where
    drop_all : (xs : List ℕ) (n : ℕ) → n ≡ length xs → drop n xs ≡ []
    drop_all xs n is = ap (λ k. drop k xs) is ∙ drop-length xs

host_link : (is_xmpp : Bool) (c : ℕ) (cs : List ℕ) → is_host_code is_xmpp c cs ≡ true → is_link_byte c ≡ true
host_link true c cs is = link_code (λ b. is_host_code true b cs) refl refl refl refl refl refl refl c is
host_link false c cs is = link_code (λ b. is_host_code false b cs) refl refl refl refl refl refl refl c is

host_links : (is_xmpp : Bool) (after : List ℕ) → list_all is_link_byte (take (host_size is_xmpp after) after) ≡ true
host_links is_xmpp [] = refl
host_links is_xmpp (c ∷ cs) =
    let n = host_size is_xmpp cs in
    let next : 1 + n ≡ suc n = omega arith in
    cond_both (is_host_code is_xmpp c cs) (1 + n) 0 (λ k. list_all is_link_byte (take k (c ∷ cs)) ≡ true)
    (λ is.
    ap (λ k. list_all is_link_byte (take k (c ∷ cs))) next
    ∙ ap₂ (λ (s t : Bool). s && t) (host_link is_xmpp c cs is) (host_links is_xmpp cs))
    (λ _. refl)

-- bytes of links around an `@`
at_address : (first second : List ℕ) → list_all is_link_byte first ≡ true → list_all is_link_byte second ≡ true → is_address (first ++ 64 ∷ second) ≡ true
at_address first second all all_second =
    ap₂ (λ (s t : Bool). s && t)
    (list_any-append (λ b. b == 64) first (64 ∷ second) ∙ or_right (list_any (λ b. b == 64) first) true refl)
    (list_all-append is_link_byte first (64 ∷ second) ∙ ap₂ (λ (s t : Bool). s && t) all all_second)

-- a protocol before a user's name
ends_before : (protocol before : List ℕ) (user : ℕ) → ends_with protocol (without_last user before) ≡ true
    → drop (length before - (user + length protocol)) before ≡ protocol ++ drop (length before - user) before
ends_before protocol before user ends =
    let k = length before - user in
    let front = take k before in
    let name = drop k before in
    let j = length front - length protocol in
    let first = take j front in
    let is : protocol ≡ drop j front = (bytes_eq-Decides protocol (drop j front)).0 ends in
    let parts : before ≡ first ++ (protocol ++ name) =
    sym (take-append-drop k before) ∙ ap (λ xs. xs ++ name) (sym (take-append-drop j front) ∙ ap (λ xs. first ++ xs) (sym is))
    ∙ append_assoc first protocol name in
    let size : length first ≡ length before - (user + length protocol) = omega (arith, length-take k before, length-take j front) in
    ap (drop (length before - (user + length protocol))) parts ∙ drop_at first (protocol ++ name) (length before - (user + length protocol)) size

-- an address after its protocol, and one with none
mail_formed : (all name host : List ℕ) → all ≡ codes "mailto:" ++ name → list_all is_link_byte name ≡ true → list_all is_link_byte host ≡ true
    → is_literal Protocol (all ++ 64 ∷ host) ≡ true
mail_formed all name host is named hosted =
    ap (λ xs. is_literal Protocol (xs ++ 64 ∷ host)) is ∙ ap (λ (s : Bool). s || false) (at_address name host named hosted)

chat_formed : (all name host : List ℕ) → all ≡ codes "xmpp:" ++ name → list_all is_link_byte name ≡ true → list_all is_link_byte host ≡ true
    → is_literal Protocol (all ++ 64 ∷ host) ≡ true
chat_formed all name host is named hosted = ap (λ xs. is_literal Protocol (xs ++ 64 ∷ host)) is ∙ at_address name host named hosted

email_formed : (before host : List ℕ) (user : ℕ) → list_all is_link_byte (drop (length before - user) before) ≡ true → list_all is_link_byte host ≡ true
    → is_literal Email (drop (length before - (user + 0)) before ++ 64 ∷ host) ≡ true
email_formed before host user named hosted =
    let same : user + 0 ≡ user = omega arith in
    ap (λ n. is_literal Email (drop (length before - n) before ++ 64 ∷ host)) same
    ∙ at_address (drop (length before - user) before) host named hosted

-- an address has the form of its kind
address_formed : (before after : List ℕ) → WhereSome (IsFormed before after) (address_at before after)
address_formed before after =
    let user = user_size before in
    let outer = without_last user before in
    let name = drop (length before - user) before in
    let named = user_name_links before in
    let Formed : ℕ → Type 0 = λ protocol. WhereSome (IsFormed before after) (address_with user protocol after) in
    let xmpp = cond (ends_with_protocol (codes "xmpp:") outer) 5 0 in
    let host = take (host_size false after) after in
    let xmpp_host = take (host_size true after) after in
    cond_both (ends_with_protocol (codes "mailto:") outer) 7 xmpp Formed
    (λ e.
    where_passed (IsFormed before after) (nat_le 1 user && is_host host) (address_of user 7 (host_size false after))
    (mail_formed (drop (length before - (user + 7)) before) name host
    (ends_before (codes "mailto:") before user (and_parts (ends_with (codes "mailto:") outer) _ e).0) named (host_links false after)))
    (λ _. cond_both (ends_with_protocol (codes "xmpp:") outer) 5 0 Formed
    (λ e.
    where_passed (IsFormed before after) (nat_le 1 user && is_host xmpp_host) (address_of user 5 (host_size true after))
    (chat_formed (drop (length before - (user + 5)) before) name xmpp_host
    (ends_before (codes "xmpp:") before user (and_parts (ends_with (codes "xmpp:") outer) _ e).0) named (host_links true after)))
    (λ _.
    where_passed (IsFormed before after) (nat_le 1 user && is_host host) (address_of user 0 (host_size false after))
    (email_formed before host user named (host_links false after))))

spell_address : (before cs : List ℕ) (o : Option Address) (rest : ℕ → List ℕ → List InlineLeaf) → WhereSome (IsFormed before cs) o
    → ((k : ℕ) (next : List ℕ) → Spell (rest k next) (next ++ drop k cs)) → Spell (address_or_text before cs o rest) (before ++ 64 ∷ cs)
spell_address before cs None rest formed spells =
    subst (Spell (rest 0 (before ++ 64 ∷ []))) (append_assoc before (64 ∷ []) cs) (spells 0 (before ++ 64 ∷ []))
spell_address before cs (Some found) rest formed spells =
    let n = length before - found.before in
    let outer = take n before in
    let text = drop n before ++ 64 ∷ take found.after cs in
    let some : 0 < length text = omega (arith, length-append (drop n before) (64 ∷ take found.after cs)) in
    let literal : Spell (Literal found.kind text ∷ []) text =
    subst (Spell (Literal found.kind text ∷ [])) (append-nil text) (OneLiteral found.kind text [] [] some formed NoLeaf) in
    let parts : Spell (address_parts before cs found) (outer ++ text) =
    spell_both (map Data outer) (Literal found.kind text ∷ []) outer text (spell_bytes outer) literal in
    let all : (outer ++ text) ++ drop found.after cs ≡ before ++ 64 ∷ cs =
    append_assoc outer text (drop found.after cs)
    ∙ ap (λ xs. outer ++ xs) (append_assoc (drop n before) (64 ∷ take found.after cs) (drop found.after cs))
    ∙ sym (append_assoc outer (drop n before) (64 ∷ (take found.after cs ++ drop found.after cs)))
    ∙ ap (λ xs. xs ++ 64 ∷ (take found.after cs ++ drop found.after cs)) (take-append-drop n before)
    ∙ ap (λ xs. before ++ 64 ∷ xs) (take-append-drop found.after cs) in
    subst (Spell (address_or_text before cs (Some found) rest)) all
    (spell_both (address_parts before cs found) (rest found.after []) (outer ++ text) (drop found.after cs) parts (spells found.after []))

spell_parts : (k : ℕ) (before cs : List ℕ) → Spell (parts_from k before cs) (before ++ drop k cs)
spell_parts zero before [] = subst (Spell (map Data before)) (sym (append-nil before)) (spell_bytes before)
spell_parts (suc k) before [] = subst (Spell (map Data before)) (sym (append-nil before)) (spell_bytes before)
spell_parts zero before (c ∷ cs) =
    cond_both (c == 64) (address_or_text before cs (address_at before cs) (λ more next. parts_from more next cs)) (parts_from 0 (before ++ c ∷ []) cs)
    (λ ls. Spell ls (before ++ c ∷ cs))
    (λ e. let at : c ≡ 64 = eqb-true c 64 e in
    subst (λ b. Spell (address_or_text before cs (address_at before cs) (λ more next. parts_from more next cs)) (before ++ b ∷ cs)) (sym at)
    (spell_address before cs (address_at before cs) (λ more next. parts_from more next cs) (address_formed before cs)
    (λ more next. spell_parts more next cs)))
    (λ _. subst (Spell (parts_from 0 (before ++ c ∷ []) cs)) (append_assoc before (c ∷ []) cs) (spell_parts 0 (before ++ c ∷ []) cs))
spell_parts (suc k) before (c ∷ cs) = spell_parts k before cs

module _ (context : InlineContext) (is_on : context.options.constructs.gfm_autolink_literal ≡ true) where
  spelled : (ls : List InlineLeaf) (text : List ℕ) (is : Inlines) (a b c : List InlineCode) → Spell ls text → AreCodes text a b → EndNoLine text
      → AreWritten context is b c → AreWritten context (parts_before (map Leaf ls) is) a c
  spelled _ _ is a b c NoLeaf codes inline p = subst (λ k. AreWritten context is k c) (sym codes) p
  spelled _ _ is a b c (OneByte x ls text s) codes inline p =
      let (mid, first, others) = codes_split (x ∷ []) text a b codes in
      More (Leaf (Data x)) (parts_before (map Leaf ls) is) a mid c
      (AsLeaf (Data x) a mid (record { codes = first; some = omega arith; inline = (inline.0, tt) })) (spelled ls text is mid b c s others inline.1 p)
  spelled _ _ is a b c (OneLiteral kind front ls text some form s) codes inline p =
      let (mid, first, others) = codes_split front text a b codes in
      More (Leaf (Literal kind front)) (parts_before (map Leaf ls) is) a mid c
      (AsLeaf (Literal kind front) a mid
      (record { is_on = is_on; text = record { codes = first; some = some; inline = inline_front front text inline }; form = form }))
      (spelled ls text is mid b c s others (inline_back front text inline) p)

  -- a run of text with its addresses
  addressed : (run : List ℕ) (is : Inlines) (a b c : List InlineCode) → AreCodes run a b → EndNoLine run → AreWritten context is b c
      → AreWritten context (addresses_before run is) a c
  addressed run is a b c codes inline p = spelled (with_addresses run) run is a b c (spell_parts 0 [] run) codes inline p

  -- ---- in links

  leaf_without_written : (part : InlineLeaf) (is : Inlines) (a b c : List InlineCode) → IsLeafWritten context part a b → AreWritten context is b c
      → AreWritten context (parts_before (map Leaf (leaf_without part)) is) a c
  leaf_without_written (Literal kind text) is a b c written p = spelled (map Data text) text is a b c (spell_bytes text) written.text.codes written.text.inline p
  leaf_without_written part is a b c written p = More (Leaf part) is a b c (AsLeaf part a b written) p

  pub without_written : (is : Inlines) (a b : List InlineCode) → AreWritten context is a b → AreWritten context (without_literals is) a b
  without_written _ _ _ (Nothing from) = Nothing from
  without_written _ _ _ (Spaces is from next to spaces p) = Spaces (without_literals is) from next to spaces (without_written is next to p)
  without_written _ _ _ (More _ is _ _ to (AsLeaf part from mid written) p) =
      leaf_without_written part (without_literals is) from mid to written (without_written is mid to p)
  without_written _ _ _ (More _ is _ _ to (AsSpan kind kids marker size from inside end mid start held closing) p) =
      More (Span kind (without_literals kids)) (without_literals is) from mid to
      (AsSpan kind (without_literals kids) marker size from inside end mid start (without_written kids inside end held) closing)
      (without_written is mid to p)
  without_written _ _ _ (More _ is _ _ to (AsLinked kind target kids from inside end mid opening held closing) p) =
      More (Linked kind target (without_literals kids)) (without_literals is) from mid to
      (AsLinked kind target (without_literals kids) from inside end mid opening (without_written kids inside end held) closing)
      (without_written is mid to p)
  without_written _ _ _ (More _ is _ _ to (AsCall label from mid codes) p) =
      More (Call label) (without_literals is) from mid to (AsCall label from mid codes) (without_written is mid to p)

  -- ---- outside

  -- at the end of a line no run of text goes on
  run_ends : (run : List ℕ) (is : Inlines) (a b : List InlineCode) → AreWritten context is a b → ends_here (codes_of a) ≡ true
      → with_literals run is ≡ addresses_before run (with_literals [] is)
  run_ends run _ _ _ (Nothing from) ends = refl
  run_ends run _ _ _ (Spaces is from next to spaces p) ends = run_ends run is next to p (spaces_end context.options.constructs from next spaces)
  run_ends run _ _ _ (More _ is _ _ to (AsLeaf (Data b) from mid written) p) ends =
      absurd (both_ways (ends_here (codes_of from)) (text_first (b ∷ []) from mid written) ends)
  run_ends run _ _ _ (More _ is _ _ to (AsLeaf part from mid written) p) ends = refl
  run_ends run _ _ _ (More _ is _ _ to (AsSpan kind kids marker size from inside end mid start held closing) p) ends = refl
  run_ends run _ _ _ (More _ is _ _ to (AsLinked kind target kids from inside end mid opening held closing) p) ends = refl
  run_ends run _ _ _ (More _ is _ _ to (AsCall label from mid codes) p) ends = refl

  with_written : (run : List ℕ) (a : List InlineCode) (is : Inlines) (b c : List InlineCode) → AreCodes run a b → EndNoLine run → AreWritten context is b c
      → AreWritten context (with_literals run is) a c
  with_written run a _ _ _ before plain (Nothing from) = addressed run Nil a from from before plain (Nothing from)
  with_written run a _ _ _ before plain (Spaces is from next to spaces p) =
      let later = Spaces (with_literals [] is) from next to spaces (with_written [] next is next to refl tt p) in
      let ends = spaces_end context.options.constructs from next spaces in
      subst (λ js. AreWritten context js a to) (sym (run_ends run is next to p ends)) (addressed run (with_literals [] is) a from to before plain later)
  with_written run a _ _ _ before plain (More _ is _ _ to (AsLeaf (Data b) from mid written) p) =
      with_written (run ++ b ∷ []) a is mid to (codes_both run (b ∷ []) a from mid before written.codes) (inline_both run (b ∷ []) plain written.inline) p
  with_written run a _ _ _ before plain (More _ is _ _ to (AsLeaf part from mid written) p) =
      addressed run (Cons (Leaf part) (with_literals [] is)) a from to before plain
      (More (Leaf part) (with_literals [] is) from mid to (AsLeaf part from mid written) (with_written [] mid is mid to refl tt p))
  with_written run a _ _ _ before plain (More _ is _ _ to (AsSpan kind kids marker size from inside end mid start held closing) p) =
      let inner = with_written [] inside kids inside end refl tt held in
      addressed run (Cons (Span kind (with_literals [] kids)) (with_literals [] is)) a from to before plain
      (More (Span kind (with_literals [] kids)) (with_literals [] is) from mid to
      (AsSpan kind (with_literals [] kids) marker size from inside end mid start inner closing) (with_written [] mid is mid to refl tt p))
  with_written run a _ _ _ before plain (More _ is _ _ to (AsLinked Link target kids from inside end mid opening held closing) p) =
      let inner = without_written kids inside end held in
      addressed run (Cons (Linked Link target (without_literals kids)) (with_literals [] is)) a from to before plain
      (More (Linked Link target (without_literals kids)) (with_literals [] is) from mid to
      (AsLinked Link target (without_literals kids) from inside end mid opening inner closing) (with_written [] mid is mid to refl tt p))
  with_written run a _ _ _ before plain (More _ is _ _ to (AsLinked Image target kids from inside end mid opening held closing) p) =
      let inner = with_written [] inside kids inside end refl tt held in
      addressed run (Cons (Linked Image target (with_literals [] kids)) (with_literals [] is)) a from to before plain
      (More (Linked Image target (with_literals [] kids)) (with_literals [] is) from mid to
      (AsLinked Image target (with_literals [] kids) from inside end mid opening inner closing) (with_written [] mid is mid to refl tt p))
  with_written run a _ _ _ before plain (More _ is _ _ to (AsCall label from mid codes) p) =
      addressed run (Cons (Call label) (with_literals [] is)) a from to before plain
      (More (Call label) (with_literals [] is) from mid to (AsCall label from mid codes) (with_written [] mid is mid to refl tt p))

  -- a tree with its literals
  pub literals_written : (is : Inlines) (a b : List InlineCode) → AreWritten context is a b → AreWritten context (with_literals [] is) a b
  literals_written is a b p = with_written [] a is a b refl tt p
