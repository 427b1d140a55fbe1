-- A text in an event of its own.
use Rattle.std.proofs.Common.{◌≡◌, ℕ, false, List, sym, ap, ◌∙◌, subst, drop, ◌<◌, ◌≤◌, ◌+◌}
use Rattle.parse_leaves.proofs.Prelude.{content_done, cut_one, End, end_in, EntersInLine, Exits, Inlines, is_white, IsInOrder, line_enters, Name, prefix_len}
use Rattle.parse_leaves.proofs.Prelude.{Reading, same_name, Standing, standing, StandsAt, StandsInContent, StandsInLine, Walk, Writes, writes_around}
use Rattle.parse_leaves.proofs.Prelude.{WritesContent, WritesContentIn, written_to}
use Rattle.engine_events.specs.declared.event.Name.TheVariants as n
use Rattle.parse_output.specs.Joined.{flat_text}
use Rattle.parse_lines.specs.InContent.{IsSameText}
use Rattle.parse_inline.specs.Texts.{FillsText}

pub text_in_event : {A : Type 0} (r : Reading) (name : Name) (content : List ℕ) (is : Inlines) (old b c new : Walk A) → same_name name n.Data ≡ false
    → standing b ≡ standing old → ((text line : List ℕ) → StandsInLine text line old → EntersInLine text name line old b)
    → WritesContent r content is b c → standing new ≡ standing c → written_to new ≡ written_to c
    → ((text : List ℕ) → IsInOrder text c.out → Exits text name c.out new.out) → WritesContentIn r name content is old new
text_in_event r name content is old b c new other same_b enters writes same end exits text stop st le =
    let on = r.parse.constructs in
    let names = r.tables.names in
    let entered = line_enters text stop old b name (drop old.place content) st same_b (enters text) in
    let place = entered.place in
    let written =
    writes text stop (subst (λ k. StandsInContent text (drop k content) stop b) (sym place) entered.stands)
    (subst (λ k. k ≤ prefix_len is_white content) (sym place) le) in
    let done = content_done text stop c written.writes.stands in
    let from = end_in old.out in
    let to = end_in c.out in
    let ns = written.nodes in
    record {
      nodes = ns;
      from = from;
      to = to;
      writes =
          subst (Writes text old.out new.out) (cut_one text name from to ns other)
          (writes_around text old.out b.out c.out new.out name ns entered.enters written.writes.writes (exits text written.writes.writes.order));
      spells = written.spells;
      plain = written.plain;
      fill = subst (λ k. FillsText (drop k content) ns) place written.fill;
      at = subst (StandsAt text stop.place) (sym same) done.at;
      whole = ap (λ (e : End). e.owed) end ∙ done.whole;
      index =
          ap (λ (e : End). e.index + stop.behind) end ∙ done.index ∙ ap (λ (s : Standing). s.line_end) (sym same);
      around = (
        ap (λ (s : Standing). s.on) same ∙ written.writes.around.0 ∙ entered.around.0,
        ap (λ (s : Standing). s.outermost) same ∙ written.writes.around.1 ∙ entered.around.1,
      );
      sound = written.sound;
      has_text = λ start may.
          subst (λ k. IsSameText start (drop k content) (flat_text text ns)) place
          (written.writes.has_text start (λ owes. may (subst (λ (e : End). 0 < e.owed) entered.end owes))).same;
    }
