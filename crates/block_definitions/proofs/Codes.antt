-- Bytes with the same codes, and later bytes.
use Rattle.std.proofs.Common.{◌≡◌, ℕ, ◌<◌, ◌+◌, List, sym, ap, ◌∙◌, subst}
use Rattle.block_definitions.proofs.Prelude.{AreBytes, content_codes, flat_map}
use Rattle.std.specs.Prelude.{drop}
use Rattle.std.proofs.lemmas.List.{get_or-drop}
use Rattle.inline_links.specs.Texts.{code_text}
use Rattle.inline_links.proofs.Texts.{bytes_back}

-- bytes with the same codes are the same
pub same_bytes : (xs ys : List ℕ) → AreBytes xs → AreBytes ys → content_codes xs ≡ content_codes ys → xs ≡ ys
same_bytes xs ys h k same = sym (bytes_back xs h) ∙ ap (flat_map code_text) same ∙ bytes_back ys k

pub later_bytes : (n : ℕ) (bs : List ℕ) → AreBytes bs → AreBytes (drop n bs)
later_bytes n bs h = λ k. subst (λ x. x < 256) (sym (get_or-drop n bs k 0)) (h (n + k))
