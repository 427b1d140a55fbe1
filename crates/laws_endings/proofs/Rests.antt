-- Codes that hold none of LF, which the code of another ending could replace: the rest of a line, and what is made of it.
use Rattle.std.proofs.Common.{◌≡◌, ℕ, zero, suc, ◌+◌, ◌-◌, List, [], ◌∷◌, ◌++◌, None, Some, Option, Bool, true, false, cond, not, ◌&&◌, ◌||◌, eqb, leb, refl}
use Rattle.std.proofs.Common.{sym, ap, ◌∙◌, length, drop, take}
use Rattle.laws_endings.proofs.Prelude.{after_run, Atx, atx, atx_of, bare, begins_apart, block_codes, bytes_of, code_with, codes_from, codes_with}
use Rattle.laws_endings.proofs.Prelude.{columns_after_tab, cond_both, Constructs, Container, ContainerLine, ContainerStart, continues, drop-map, ends_apart}
use Rattle.laws_endings.proofs.Prelude.{filter, Footnote, heading_atx, IfSome, indent, is_break, is_byte, is_tab_column, is_white, Item, line_ending_code}
use Rattle.laws_endings.proofs.Prelude.{LineEnding, map-append, outdent, prefix_len, Quote, replicate, Rest, run, small_indent, starts, tab_column, take-map}
use Rattle.laws_endings.proofs.Prelude.{trim, without_closing, without_run}
use Rattle.std.specs.Prelude.{min}
use Rattle.std.specs.List.{suffix_len}
use Rattle.markdown_options.specs.declared.beside.Kind.TheVariants.{Whitespace}
use Rattle.definition_block.specs.ContainerLine.{container_line}
use Rattle.definition_block.specs.BlockQuote.{after_byte, after_mark, quote_prefix}
use Rattle.definition_block.specs.ListItem.{Marker, marker_of, is_digit, number_of, bullet, after_number, ordered_marker, marker, gap, is_item, item}
use Rattle.definition_block.specs.ListItem.{item_after}
use Rattle.definition_block.specs.ListItem.{item_start, is_inside}
use Rattle.definition_block.specs.GfmFootnoteDefinition.{footnote_start}
use Rattle.definition_block.specs.Containers.{quote_or, footnote_or}
use Rattle.definition_block.proofs.GfmFootnoteDefinition.{fine_after, footnote_fine, footnote_either}
use Rattle.laws_endings.proofs.Codes.{same_code}

-- no byte is LF
abbrev pub Feedless : List ℕ → Type 0
Feedless [] = Unit {0}
Feedless (b ∷ bs) = (eqb b 10 ≡ false) × Feedless bs

-- ---- what a container leaves of a rest: the end of it, and so what holds of each end of a rest that it holds of

module _ (Fine : List ℕ → Type 0) (dropped : (n : ℕ) (cs : List ℕ) → Fine cs → Fine (drop n cs)) where
  -- the rest that is left, if any
  abbrev FineRest : Option Rest → Type 0
  FineRest o = IfSome o (λ rest. Fine rest)

  -- the same of what a container leaves of a line
  abbrev pub FineLine : Option ContainerLine → Type 0
  FineLine o = IfSome o (λ line. Fine line.rest)

  -- the same of the rest after a marker
  abbrev FineMarker : Option Marker → Type 0
  FineMarker o = IfSome o (λ m. Fine m.rest)

  -- the same of the rest after what starts a container
  abbrev pub FineStarted : Option ContainerStart → Type 0
  FineStarted o = IfSome o (λ s. Fine s.rest)

  byte_fine : (byte : ℕ) (rest : Rest) → Fine rest → FineRest (after_byte byte rest)
  byte_fine byte [] k = tt
  byte_fine byte (code ∷ codes) k = cond_both (eqb code byte) (Some codes) None FineRest (λ _. dropped 1 (code ∷ codes) k) (λ _. tt)

  mark_fine : (o : Option Rest) → FineRest o → FineLine (after_mark o)
  mark_fine None k = tt
  mark_fine (Some rest) k = dropped (min 1 (indent rest)) rest k

  quote_fine : (on : Constructs) (rest : Rest) → Fine rest → FineLine (quote_prefix on rest)
  quote_fine on rest k =
      let after = after_byte 62 (bare rest) in
      cond_both (on.block_quote && small_indent on rest) (after_mark after) None FineLine
      (λ _. mark_fine after (byte_fine 62 (bare rest) (dropped (indent rest) rest k))) (λ _. tt)

  bullet_fine : (rest : Rest) → Fine rest → FineMarker (bullet rest)
  bullet_fine [] k = tt
  bullet_fine (code ∷ codes) k =
      cond_both (eqb code 45 || eqb code 43 || eqb code 42) (Some (marker_of code None 1 codes)) None FineMarker
      (λ _. dropped 1 (code ∷ codes) k) (λ _. tt)

  delimiter_fine : (number digits : ℕ) (rest : Rest) → Fine rest → FineMarker (after_number number digits rest)
  delimiter_fine number digits [] k = tt
  delimiter_fine number digits (code ∷ codes) k =
      cond_both (eqb code 46 || eqb code 41) (Some (marker_of code (Some number) (digits + 1) codes)) None FineMarker
      (λ _. dropped 1 (code ∷ codes) k) (λ _. tt)

  ordered_fine : (digits : ℕ) (rest : Rest) → Fine rest → FineMarker (ordered_marker digits rest)
  ordered_fine digits rest k =
      let number = number_of (take digits rest) in
      cond_both (leb digits 9) (after_number number digits (drop digits rest)) None FineMarker
      (λ _. delimiter_fine number digits (drop digits rest) (dropped digits rest k)) (λ _. tt)

  marker_fine : (rest : Rest) → Fine rest → FineMarker (marker rest)
  marker_fine rest k =
      let digits = prefix_len is_digit rest in
      cond_both (eqb digits 0) (bullet rest) (ordered_marker digits rest) FineMarker (λ _. bullet_fine rest k) (λ _. ordered_fine digits rest k)

  after_marker_fine : (columns : ℕ) (interrupts : Bool) (o : Option Marker) → FineMarker o → FineStarted (item_after columns interrupts o)
  after_marker_fine columns interrupts None k = tt
  after_marker_fine columns interrupts (Some m) k =
      cond_both (is_item interrupts m) (Some (item columns m)) None FineStarted (λ _. dropped (gap m.rest) m.rest k) (λ _. tt)

  item_fine : (on : Constructs) (interrupts : Bool) (rest : Rest) → Fine rest → FineStarted (item_start on interrupts rest)
  item_fine on interrupts rest k =
      let found = marker (bare rest) in
      cond_both (on.list_item && small_indent on rest && not (is_break on rest)) (item_after (indent rest) interrupts found) None FineStarted
      (λ _. after_marker_fine (indent rest) interrupts found (marker_fine (bare rest) (dropped (indent rest) rest k))) (λ _. tt)

  either_fine : (other : Option ContainerStart) (o : Option ContainerLine) → FineStarted other → FineLine o → FineStarted (quote_or other o)
  either_fine other None h k = h
  either_fine other (Some line) h k = k

  pub starts-fine : (on : Constructs) (interrupts : Bool) (rest : Rest) → Fine rest → FineStarted (starts on interrupts rest)
  starts-fine on interrupts rest k =
      let item = item_start on interrupts rest in
      let footnote = footnote_start on rest in
      either_fine (footnote_or item footnote) (quote_prefix on rest)
      (footnote_either FineStarted item footnote (item_fine on interrupts rest k)
      (footnote_fine Fine dropped on rest (fine_after Fine dropped (bare rest) (dropped (indent rest) rest k))))
      (quote_fine on rest k)

  pub continues-fine : (on : Constructs) (c : Container) (blank : Bool) (rest : Rest) → Fine rest → FineLine (continues on c blank rest)
  continues-fine on Quote blank rest k = quote_fine on rest k
  continues-fine on (Item item) blank rest k =
      cond_both (is_inside item.size blank rest) (Some (container_line (drop item.size rest) Whitespace)) None FineLine
      (λ _. dropped item.size rest k) (λ _. tt)
  continues-fine on (Footnote label) blank rest k =
      cond_both (is_inside 4 false rest) (Some (container_line (drop 4 rest) Whitespace)) None FineLine (λ _. dropped 4 rest k) (λ _. tt)

module _ (e : LineEnding) where
  -- codes that stay as they are
  abbrev pub Kept : List ℕ → Type 0
  Kept cs = codes_with e cs ≡ cs

  pub drop-kept : (n : ℕ) (cs : List ℕ) → Kept cs → Kept (drop n cs)
  drop-kept n cs k = sym (drop-map (code_with e) n cs) ∙ ap (drop n) k

  pub take-kept : (n : ℕ) (cs : List ℕ) → Kept cs → Kept (take n cs)
  take-kept n cs k = sym (take-map (code_with e) n cs) ∙ ap (take n) k

  append-kept : (cs ds : List ℕ) → Kept cs → Kept ds → Kept (cs ++ ds)
  append-kept cs ds k l = map-append (code_with e) cs ds ∙ ap (λ first. first ++ codes_with e ds) k ∙ ap (λ more. cs ++ more) l

  kept_either : (c : ℕ) (cs : List ℕ) (byte : Bool) → filter is_byte (codes_with e cs) ≡ codes_with e (filter is_byte cs)
      → cond byte (code_with e c ∷ filter is_byte (codes_with e cs)) (filter is_byte (codes_with e cs))
      ≡ codes_with e (cond byte (c ∷ filter is_byte cs) (filter is_byte cs))
  kept_either c cs true same = ap (λ more. code_with e c ∷ more) same
  kept_either c cs false same = same

  bytes_of-with : (cs : List ℕ) → bytes_of (codes_with e cs) ≡ codes_with e (bytes_of cs)
  bytes_of-with [] = refl
  bytes_of-with (c ∷ cs) =
      let more = filter is_byte (codes_with e cs) in
      ap (λ byte. cond byte (code_with e c ∷ more) more) (same_code e is_byte c refl refl) ∙ kept_either c cs (is_byte c) (bytes_of-with cs)

  pub bytes_of-kept : (cs : List ℕ) → Kept cs → Kept (bytes_of cs)
  bytes_of-kept cs k = sym (bytes_of-with cs) ∙ ap bytes_of k

  pub block_codes-kept : (rest : Rest) → Kept rest → Kept (block_codes rest)
  block_codes-kept rest k =
      let n = prefix_len is_tab_column rest in
      append-kept (take n rest) (bytes_of rest) (take-kept n rest k) (bytes_of-kept rest k)

  pub bare-kept : (rest : Rest) → Kept rest → Kept (bare rest)
  bare-kept rest k = drop-kept (indent rest) rest k

  pub outdented-kept : (most : ℕ) (rest : Rest) → Kept rest → Kept (outdent most rest)
  outdented-kept most rest k = drop-kept (min most (indent rest)) rest k

  -- ---- the codes of a line

  columns-kept : (n : ℕ) → Kept (replicate n tab_column)
  columns-kept zero = refl
  columns-kept (suc n) = ap (λ more. tab_column ∷ more) (columns-kept n)

  pub codes_from-kept : (column : ℕ) (bs : List ℕ) → Feedless bs → Kept (codes_from column bs)
  codes_from-kept column [] p = refl
  codes_from-kept column (b ∷ bs) p =
      let n = columns_after_tab column in
      let after = codes_from (column + 1 + n) bs in
      cond_both (eqb b 9) (9 ∷ (replicate n tab_column ++ after)) (b ∷ codes_from (column + 1) bs) Kept
      (λ _. ap (λ more. 9 ∷ more) (append-kept (replicate n tab_column) after (columns-kept n) (codes_from-kept (column + 1 + n) bs p.1)))
      (λ _. ap (λ feed. cond feed (line_ending_code e) b ∷ codes_with e (codes_from (column + 1) bs)) p.0
      ∙ ap (λ more. b ∷ more) (codes_from-kept (column + 1) bs p.1))

  -- ---- what a container leaves of a rest

  -- what a container leaves of a line
  abbrev pub KeptLine : Option ContainerLine → Type 0
  KeptLine o = FineLine Kept drop-kept o

  -- the same of the rest after what starts a container
  abbrev pub KeptStarted : Option ContainerStart → Type 0
  KeptStarted o = FineStarted Kept drop-kept o

  pub starts-kept : (on : Constructs) (interrupts : Bool) (rest : Rest) → Kept rest → KeptStarted (starts on interrupts rest)
  starts-kept on interrupts rest k = starts-fine Kept drop-kept on interrupts rest k

  pub continues-kept : (on : Constructs) (c : Container) (blank : Bool) (rest : Rest) → Kept rest → KeptLine (continues on c blank rest)
  continues-kept on c blank rest k = continues-fine Kept drop-kept on c blank rest k

  -- ---- the content of an ATX heading

  abbrev pub KeptAtx : Option Atx → Type 0
  KeptAtx o = IfSome o (λ found. Kept found.content)

  trimmed-kept : (text : List ℕ) → Kept text → Kept (trim text)
  trimmed-kept text k =
      let rest = drop (prefix_len is_white text) text in
      take-kept (length rest - suffix_len is_white rest) rest (drop-kept (prefix_len is_white text) text k)

  without_run-kept : (text : List ℕ) → Kept text → Kept (without_run text)
  without_run-kept text k = take-kept (length text - suffix_len (λ b. eqb b 35) text) text k

  without_closing-kept : (text : List ℕ) → Kept text → Kept (without_closing text)
  without_closing-kept text k =
      cond_both (ends_apart (without_run text)) (trim (without_run text)) text Kept
      (λ _. trimmed-kept (without_run text) (without_run-kept text k)) (λ _. k)

  atx_of-kept : (text : List ℕ) → Kept text → KeptAtx (atx_of text)
  atx_of-kept text k =
      let rank = run 35 text in
      let after = trim (after_run 35 text) in
      cond_both (leb 1 rank && leb rank 6 && begins_apart (after_run 35 text)) (Some (atx rank (without_closing after))) None KeptAtx
      (λ _. without_closing-kept after (trimmed-kept (after_run 35 text) (drop-kept rank text k))) (λ _. tt)

  pub heading_atx-kept : (on : Constructs) (rest : Rest) → Kept rest → KeptAtx (heading_atx on rest)
  heading_atx-kept on rest k =
      let text = bytes_of (bare rest) in
      cond_both (on.heading_atx && small_indent on rest) (atx_of text) None KeptAtx
      (λ _. atx_of-kept text (bytes_of-kept (bare rest) (bare-kept rest k))) (λ _. tt)
