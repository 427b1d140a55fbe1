-- A paragraph that is open where a line leaves the containers, and may be interrupted.
use Rattle.std.proofs.Common.{◌≡◌, ℕ, ◌==◌, ◌&&◌, [], List, true, false, ap, length, arith, vec_len}
use Rattle.block_parser.proofs.Prelude.{and_parts, Blocks, container_views, eq-eqb, eqb-true, has_text, HasRead, Level, Opening, Parser, spine_at, text_here}
use Rattle.block_parser.proofs.Closing.{opening_depth, length-around, length-containers, views_length}
use Rattle.block_parser.proofs.Descending.{no_deeper}
use Rattle.block_parser.proofs.Steps.{here_or_not}

module _ {A : Type 0} (p : Parser A) (depth : ℕ) (around : List Level) (kids : Blocks) (away : Opening) (deep : depth ≡ length around)
    (h : HasRead p (spine_at around kids away)) where
  -- no text stands here to be interrupted
  pub nothing_here : ((depth == vec_len p.open) && has_text away) ≡ false → text_here away ≡ []
  nothing_here not_here =
      here_or_not depth (vec_len p.open) away
      (λ none. eq-eqb depth (vec_len p.open) (omega (
        arith,
        deep,
        none,
        p.open.ok.0,
        views_length p.open.items,
        ap length h.opened,
        length-containers (spine_at around kids away).around,
        length-around around kids away,
      ))) not_here

  -- a text is interrupted, in no container but those that go on
  pub record IsHere : Type 0 where
    pub depth_is : opening_depth away ≡ 0
    pub text : has_text away ≡ true

  pub text_is_here : ((depth == vec_len p.open) && has_text away) ≡ true → IsHere
  text_is_here here =
      let both = and_parts (depth == vec_len p.open) (has_text away) here in
      record {
        depth_is =
            no_deeper (container_views p.open.items) around kids away h.opened
            (omega (arith, deep, eqb-true depth (vec_len p.open) both.0, p.open.ok.0, views_length p.open.items));
        text = both.1;
      }
