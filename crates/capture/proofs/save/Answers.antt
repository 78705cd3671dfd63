-- `capture::save` meets its contract: where every check passed the file can be written.
-- Assumes nothing.
use mathlib.Core.Path.{sym}
use Rattle.capture.proofs.Saving.{saveable}
use Rattle.capture.proofs.save.Goals as goal

pub put_file-requires : goal.put_file-requires
put_file-requires c = saveable _ _ _ _ (sym c.in_ok-check_save.ensures)
