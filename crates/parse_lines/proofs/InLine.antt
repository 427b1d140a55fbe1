-- What is written of a line of a content, one after another.
use Rattle.std.proofs.Common.{◌≡◌, ℕ, ◌+◌, ◌-◌, ◌^◌, ◌<◌, false, List, [], ◌∷◌, ◌++◌, refl, sym, ap, ap₂, subst, ◌∙◌, length, length-append, arith}
use Rattle.std.proofs.Math.Nat.{sub_self}
use Rattle.std.proofs.Common.{true}
use Rattle.parse_lines.proofs.Prelude.{IsToken, is_token, HasBytes}
use Rattle.parse_lines.proofs.Prelude.{append, AreJoined, AreNext, Around, between_both, byte_nodes, content_end_in, cut, data_nodes, edge, End, end_after}
use Rattle.parse_lines.proofs.Prelude.{end_columns, end_edge, end_in, enter_at, EntersInLine, exit_at, ExitsInLine, flat_around, flat_both, flat_text, Follows}
use Rattle.parse_lines.proofs.Prelude.{IsInOrder, joined_both, joined_cut, joined_onward, Name, Nil, Nodes, none_between, Output, same_name, spot}
use Rattle.parse_lines.proofs.Prelude.{StandsInLine, text_between, Walk, Writes, writes_around, writes_both, writes_joined, writes_none, WritesInLine}
use Rattle.engine_events.specs.declared.event.Name.TheVariants.{BlockQuotePrefix}
use Rattle.parse_lines.proofs.Ahead.{after_both, after_more, follows_after, next_after}

no_nodes : (text : List ℕ) (e : End) → Nil ≡ data_nodes text e e
no_nodes text e = ap (byte_nodes (edge (spot e.index (end_columns text e)))) (sym (sub_self (edge (spot e.index (end_columns text e)))))

module _ {A : Type 0} (text : List ℕ) where
  -- some bytes, and then others
  pub lines_both : (a b c : Walk A) (front after line : List ℕ) (ns ms : Nodes) → WritesInLine text front ns (after ++ line) a b
      → WritesInLine text after ms line b c → WritesInLine text (front ++ after) (append ns ms) line a c
  lines_both a b c front after line ns ms first second = record {
    writes = writes_both text a.out b.out c.out ns ms first.writes second.writes;
    stands = second.stands;
    end =
        second.end
        ∙ ap (λ e. end_after e (length after)) first.end
        ∙ after_both (end_in a.out) (length front) (length after)
        ∙ ap (end_after (end_in a.out)) (sym (length-append front after));
    place = omega (arith, first.place, second.place, length-append front after);
    joined = joined_both _ _ _ ns ms first.joined second.joined;
    spells =
        flat_both text ns ms ∙ ap₂ (λ (xs ys : List ℕ). xs ++ ys) first.spells second.spells
        ∙ between_both text _ _ _ (joined_onward _ _ ns first.joined) (joined_onward _ _ ms second.joined);
  }

  -- bytes in an event that is entered before them and exited after them
  pub lines_around : (a b c d : Walk A) (name : Name) (front line : List ℕ) (ns : Nodes) → EntersInLine text name (front ++ line) a b
      → WritesInLine text front ns line b c → ExitsInLine text name line c d → same_name name BlockQuotePrefix ≡ false
      → WritesInLine text front (cut (Around (enter_at text name (end_in a.out)) ns (exit_at text name (end_in c.out)))) line a d
  lines_around a b c d name front line ns enters writes exits other =
      let from = end_in a.out in
      let to = end_in c.out in
      let inner : AreJoined (end_edge text from) ns (end_edge text to) =
      subst (λ (e : End). AreJoined (end_edge text e) ns (end_edge text to)) enters.end writes.joined in
      record {
        writes = writes_around text a.out b.out c.out d.out name ns enters.enters writes.writes exits.exits;
        stands = exits.stands;
        end = exits.end ∙ writes.end ∙ ap (λ e. end_after e (length front)) enters.end;
        place = omega (arith, enters.place, writes.place, exits.place);
        joined =
            subst (λ (e : End). AreJoined (end_edge text from) (cut (Around (enter_at text name from) ns (exit_at text name to))) (end_edge text e))
            (sym exits.end) (joined_cut (enter_at text name from) (exit_at text name to) ns (joined_onward _ _ ns inner));
        spells =
            flat_around text name from to ns other inner ∙ writes.spells
            ∙ ap₂ (λ (x y : End). text_between text x y) enters.end (sym exits.end);
      }

  -- the next bytes
  pub writes_next : (w : Walk A) (out : Output A) (front line : List ℕ) (name : Name) (size more : ℕ) (end : End) (nodes : End → Nodes) → size ≡ length front
      → StandsInLine text (front ++ line) w → HasBytes text name size w → more ≡ w.place + size
      → ((end_after w.line_start (more - w.line_place)).index < 2 ^ 61 → end ≡ end_after w.line_start (more - w.line_place)) → end_in out ≡ end
      → (IsInOrder text w.out → IsToken text name (end_in w.out) end → Writes text w.out out (nodes end))
      → ((to : End) → Follows text (end_in w.out) to → flat_text text (nodes to) ≡ text_between text (end_in w.out) to)
      → WritesInLine text front (nodes (end_after (end_in w.out) size)) line w (record w { out = out; place = more })
  writes_next w out front line name size more end nodes is st bytes on ends at writes spells =
      let from = content_end_in w in
      let there : end_after w.line_start (more - w.line_place) ≡ end_after from (length front) =
      after_more w.line_start w.line_place w.place size more st.place on ∙ ap (end_after from) is in
      let follows : Follows text from (end_after from (length front)) = follows_after text front line from st.next in
      let within : (end_after w.line_start (more - w.line_place)).index < 2 ^ 61 =
      omega (arith, ap (λ (e : End). e.index) there, follows.within, st.size) in
      let reached : end ≡ end_after from (length front) = ends within ∙ there in
      let here : end_after from (length front) ≡ end_after (end_in w.out) size =
      ap₂ end_after (sym st.at) (sym is) in
      let all = reached ∙ here in
      let written : Writes text w.out out (nodes end) = writes st.order (record {
        follows = subst (λ a. Follows text a end) (sym st.at) (subst (Follows text from) (sym reached) follows);
        bytes = λ apart. subst (λ (e : End). is_token name (text_between text (end_in w.out) e) ≡ true) (sym all) bytes;
      }) in
      let now : Writes text w.out out (nodes (end_after (end_in w.out) size)) = subst (λ e. Writes text w.out out (nodes e)) all written in
      let to : Follows text (end_in w.out) (end_after (end_in w.out) size) =
      subst (λ a. Follows text a (end_after (end_in w.out) size)) (sym st.at) (subst (Follows text from) here follows) in
      record {
        writes = now;
        stands = record {
          order = written.order;
          at = at ∙ reached ∙ sym there;
          next = subst (λ e. AreNext text e line) (sym there) (next_after text front line from st.next);
          place = omega (arith, st.place, on);
          fits = omega (arith, st.fits, on, is, length-append front line);
          size = st.size;
        };
        end = at ∙ all ∙ ap (end_after (end_in w.out)) is;
        place = omega (arith, on, is);
        joined = writes_joined text w.out out (nodes (end_after (end_in w.out) size)) st.order now;
        spells = spells (end_after (end_in w.out) size) to ∙ ap (text_between text (end_in w.out)) (sym (at ∙ all));
      }

  -- nothing
  pub lines_none : (w : Walk A) (line : List ℕ) → StandsInLine text line w → WritesInLine text [] Nil line w w
  lines_none w line st = record {
    writes = writes_none text w.out st.order;
    stands = st;
    end = refl;
    place = omega arith;
    joined = refl;
    spells = sym (none_between text (end_edge text (end_in w.out)) (end_edge text (end_in w.out)) refl);
  }

  -- no data
  pub writes_nothing : (w : Walk A) (front line : List ℕ) (size : ℕ) → size ≡ 0 → size ≡ length front → StandsInLine text (front ++ line) w
      → WritesInLine text front (data_nodes text (end_in w.out) (end_after (end_in w.out) size)) line w w
  writes_nothing w [] line size none is st =
      subst (λ n. WritesInLine text [] (data_nodes text (end_in w.out) (end_after (end_in w.out) n)) line w w) (sym none) (
      subst (λ ns. WritesInLine text [] ns line w w) (no_nodes text (end_in w.out)) (lines_none w line st)
      )
  writes_nothing w (b ∷ bs) line size none is st = absurd (omega (arith, none, is))
