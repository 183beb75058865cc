use Rattle.command_line.proofs.Cuts.{frames_tell}
use Rattle.command_line.proofs.laws.frame_laws.Goals as goal

pub returns : goal.returns
returns c = frames_tell
