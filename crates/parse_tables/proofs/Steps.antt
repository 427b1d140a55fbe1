-- One step after another in a line.
use Rattle.std.proofs.Common.{◌≡◌, ◌<◌, ℕ, ◌+◌, ◌^◌, List, [], ◌∷◌, ◌++◌, Option, length, length-append, refl, sym, ap, ap₂, subst, ◌∙◌, arith, false}
use Rattle.parse_tables.proofs.Prelude.{after_bytes, append, AreNext, Around, AtEnding, cut, End, end_after, end_at, end_in, ends_line, enter_at, Enters}
use Rattle.parse_tables.proofs.Prelude.{exit_at, Exits, Follows, follows_after, HasSameOpen, IsBefore, IsInOrder, LineEnding, LineRest, list_any, Name}
use Rattle.parse_tables.proofs.Prelude.{next_after, Nil, Nodes, or_from, or_parts, Standing, standing, StandsAt, void_nodes, Walk, writes_around, writes_both}
use Rattle.parse_tables.proofs.Prelude.{WritesTo, WritesUpTo, written_to}
use Rattle.std.proofs.Common.{true}
use Rattle.event_tokens.specs.Tokens.{is_token}
use Rattle.parse_output.specs.Joined.{text_between}
use Rattle.parse_output.proofs.Written.{writes_none}
use Rattle.parse_lines.proofs.Bytes.{apart_some, whole_between}
use Rattle.parse_lines.proofs.Parts.{line_size}

pub dark_after : (front line : List ℕ) → list_any ends_line (front ++ line) ≡ false → list_any ends_line line ≡ false
dark_after [] line h = h
dark_after (b ∷ front) line h = dark_after front line (or_parts (ends_line b) (list_any ends_line (front ++ line)) h).1

pub dark_front : (front line : List ℕ) → list_any ends_line (front ++ line) ≡ false → list_any ends_line front ≡ false
dark_front [] line h = refl
dark_front (b ∷ front) line h =
    let parts = or_parts (ends_line b) (list_any ends_line (front ++ line)) h in
    or_from (ends_line b) (list_any ends_line front) parts.0 (dark_front front line parts.1)

pub open_both : (a b c : Standing) → HasSameOpen a b → HasSameOpen b c → HasSameOpen a c
open_both a b c first second = (second.0 ∙ first.0, second.1 ∙ first.1)

module _ {A : Type 0} (text : List ℕ) (ending : Option LineEnding) (left : List LineRest) where
  -- where so many more bytes end
  place_after : (old : Walk A) (front line : List ℕ) → IsBefore text (front ++ line) ending left old
      → end_after (end_in old.out) (length front) ≡ end_at ((end_in old.out).index + length front) 0
  place_after old front line b =
      ap (λ (o : ℕ). end_after (end_at (end_in old.out).index o) (length front)) b.bare ∙ after_bytes (end_in old.out).index (length front)

  -- all places are in the text
  pub place_fits : (old : Walk A) (line : List ℕ) → IsBefore text line ending left old → (end_in old.out).index + length line < 2 ^ 61
  place_fits old line b =
      let size = line_size text (standing old) b.at.line in
      let fits = b.at.line.parts.fits in
      let end = b.end in
      omega (arith, size, fits, end)

  -- a walk elsewhere in the line, at the place after some more bytes
  pub before_after : (old new : Walk A) (front line : List ℕ) → IsBefore text (front ++ line) ending left old → standing new ≡ standing old
      → IsInOrder text new.out → end_in new.out ≡ end_at ((end_in old.out).index + length front) 0 → IsBefore text line ending left new
  before_after old new front line b same order end =
      let there : end_after (end_in old.out) (length front) ≡ end_in new.out = place_after old front line b ∙ sym end in
      let size = length-append front line in
      let all = b.end in
      let index = ap (λ (e : End). e.index) end in
      let line_end : new.line_end ≡ old.line_end = ap (λ (s : Standing). s.line_end) same in
      record {
        at = subst (StandsAt text (AtEnding ending left)) (sym same) b.at;
        order = order;
        next = subst (λ (e : End). AreNext text e line) there (next_after text front line (end_in old.out) b.next);
        bare = ap (λ (e : End). e.owed) end;
        end = omega (arith, size, all, index, line_end);
        dark = dark_after front line b.dark;
      }

  pub same_open : (old new : Walk A) → standing new ≡ standing old → HasSameOpen (standing old) (standing new)
  same_open old new same = (ap (λ (s : Standing). s.on) same, ap (λ (s : Standing). s.outermost) same)

  -- a token of so many bytes
  pub before_token : (old new : Walk A) (name : Name) (front line : List ℕ) (to : End) → to ≡ end_at ((end_in old.out).index + length front) 0
      → (0 < length front → is_token name front ≡ true) → IsBefore text (front ++ line) ending left old
      → standing new ≡ standing old → written_to new ≡ to → WritesUpTo name to old new
      → WritesTo text line ending left (void_nodes text name (end_in old.out) to) old new
  before_token old new name front line to place may b same end written =
      let follows = subst (λ (e : End). Follows text (end_in old.out) e) (place_after old front line b ∙ sym place) (follows_after text front line (end_in old.out) b.next) in
      let between : text_between text (end_in old.out) to ≡ front =
      ap (text_between text (end_in old.out)) (place ∙ sym (place_after old front line b)) ∙ whole_between text (end_in old.out) front line b.bare b.next in
      let some = apart_some (end_in old.out) to front (place ∙ sym (place_after old front line b)) in
      let writes = written text b.order (record { follows = follows; bytes = λ apart. ap (is_token name) between ∙ may (some apart) }) in
      record { writes = writes; before = before_after old new front line b same writes.order (end ∙ place); around = same_open old new same }

  -- what is entered and exited around other nodes
  pub before_around : (a b c d : Walk A) (name : Name) (line more : List ℕ) (ns : Nodes) → IsBefore text line ending left a → Enters text name a.out b.out
      → standing b ≡ standing a → WritesTo text more ending left ns b c → Exits text name c.out d.out → standing d ≡ standing c → end_in d.out ≡ end_in c.out
      → WritesTo text more ending left (cut (Around (enter_at text name (end_in a.out)) ns (exit_at text name (end_in c.out)))) a d
  before_around a b c d name line more ns before enters same written exits stays end =
      let inside = written.before in
      let here : (end_in c.out).index + 0 ≡ (end_in c.out).index = omega arith in
      let place : end_in d.out ≡ end_at ((end_in c.out).index + 0) 0 = end ∙ ap₂ end_at (sym here) inside.bare in
      record {
        writes = writes_around text a.out b.out c.out d.out name ns enters written.writes exits;
        before = before_after c d [] more inside stays exits.order place;
        around = open_both (standing a) (standing b) (standing d) (same_open a b same) (open_both (standing b) (standing c) (standing d) written.around
            (same_open c d stays));
      }

  -- some nodes, and then others
  pub before_both : (a b c : Walk A) (line more : List ℕ) (ns ms : Nodes) → WritesTo text line ending left ns a b → WritesTo text more ending left ms b c
      → WritesTo text more ending left (append ns ms) a c
  before_both a b c line more ns ms first second =
      record {
        writes = writes_both text a.out b.out c.out ns ms first.writes second.writes;
        before = second.before;
        around = open_both (standing a) (standing b) (standing c) first.around second.around;
      }

  pub before_none : (w : Walk A) (line : List ℕ) → IsBefore text line ending left w → WritesTo text line ending left Nil w w
  before_none w line b = record { writes = writes_none text w.out b.order; before = b; around = (refl, refl) }

  -- an event was entered, and the walk is where it was
  pub before_entered : (a b : Walk A) (name : Name) (line : List ℕ) → IsBefore text line ending left a → Enters text name a.out b.out → standing b ≡ standing a
      → end_in b.out ≡ end_in a.out → IsBefore text line ending left b
  before_entered a b name line before enters same end =
      let here : (end_in a.out).index + 0 ≡ (end_in a.out).index = omega arith in
      before_after a b [] line before same enters.order (end ∙ ap₂ end_at (sym here) before.bare)

-- ---- calls of a walk

-- what a call writes that enters, exits, or takes so many bytes
pub record IsEntered {A : Type 0} (name : Name) (a b : Walk A) : Type 0 where
  pub stays : standing b ≡ standing a
  pub end : written_to b ≡ written_to a
  pub enters : (text : List ℕ) → IsInOrder text a.out → Enters text name a.out b.out

pub record IsExited {A : Type 0} (name : Name) (a b : Walk A) : Type 0 where
  pub stays : standing b ≡ standing a
  pub end : written_to b ≡ written_to a
  pub exits : (text : List ℕ) → IsInOrder text a.out → Exits text name a.out b.out

pub record IsToken {A : Type 0} (name : Name) (size : ℕ) (a b : Walk A) : Type 0 where
  pub stays : standing b ≡ standing a
  pub end : (written_to a).index + size < 2 ^ 64 → written_to b ≡ end_at ((written_to a).index + size) 0
  pub written : (written_to a).index + size < 2 ^ 64 → WritesUpTo name (end_at ((written_to a).index + size) 0) a b

module _ {A : Type 0} (text : List ℕ) (ending : Option LineEnding) (left : List LineRest) where
  -- so many bytes by a name
  pub token_written : (a b : Walk A) (name : Name) (size : ℕ) (front line : List ℕ) → IsToken name size a b → size ≡ length front
      → (0 < length front → is_token name front ≡ true) → IsBefore text (front ++ line) ending left a
      → WritesTo text line ending left (void_nodes text name (end_in a.out) (end_at ((end_in a.out).index + size) 0)) a b
  token_written a b name size front line t is may before =
      let fits = place_fits text ending left a (front ++ line) before in
      let all = length-append front line in
      let small : (end_in a.out).index + size < 2 ^ 64 = omega (arith, fits, all, is) in
      before_token text ending left a b name front line (end_at ((end_in a.out).index + size) 0) (ap (λ (k : ℕ). end_at ((end_in a.out).index + k) 0) is) may before
      t.stays (t.end small) (t.written small)

  pub entered_before : (a b : Walk A) (name : Name) (line : List ℕ) → IsEntered name a b → IsBefore text line ending left a → IsBefore text line ending left b
  entered_before a b name line e before = before_entered text ending left a b name line before (e.enters text before.order) e.stays e.end

  -- nodes in an event
  pub around_written : (a b c d : Walk A) (name : Name) (line more : List ℕ) (ns : Nodes) → IsBefore text line ending left a → IsEntered name a b
      → WritesTo text more ending left ns b c → IsExited name c d
      → WritesTo text more ending left (cut (Around (enter_at text name (end_in a.out)) ns (exit_at text name (end_in c.out)))) a d
  around_written a b c d name line more ns before e w x =
      before_around text ending left a b c d name line more ns before (e.enters text before.order) e.stays w (x.exits text w.before.order) x.stays x.end
