use Rattle.parse_open.proofs.SoundBytes.{documents_are_sound}
use Rattle.parse_open.proofs.sound_law.Goals as goal

pub returns : goal.returns
returns c = documents_are_sound
