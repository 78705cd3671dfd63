-- `replay_script::put_result` meets its contract: each arm is a case of `result_text`.
-- Assumes nothing.
use Rattle.resequencer.proofs.Steps.{within}
use Rattle.replay_script.proofs.Reports.{held-written, handed-written, old-written, dup-written, refused-written}
use Rattle.replay_script.proofs.put_result.Goals as goal

pub returns-in-Ok-Held : goal.returns-in-Ok-Held
returns-in-Ok-Held c = held-written _ (within c.in-Ok-Held.is (rw c.in-Ok-Held.is at c.in-Ok-Held.field-0-is)) c.requires.1 c.put_word.ensures

pub returns-in-Ok-HandedOn : goal.returns-in-Ok-HandedOn
returns-in-Ok-HandedOn c = handed-written _ (within c.in-Ok-HandedOn.is (rw c.in-Ok-HandedOn.is at c.in-Ok-HandedOn.field-0-is)) c.put_handed.ensures

pub returns-in-Ok-Old : goal.returns-in-Ok-Old
returns-in-Ok-Old c = old-written _ (within c.in-Ok-Old.is (rw c.in-Ok-Old.is at c.in-Ok-Old.field-0-is)) c.requires.1 c.put_word-in-Ok-Old.ensures

pub returns-in-Ok-Duplicate : goal.returns-in-Ok-Duplicate
returns-in-Ok-Duplicate c = dup-written _ (within c.in-Ok-Duplicate.is (rw c.in-Ok-Duplicate.is at c.in-Ok-Duplicate.field-0-is)) c.requires.1 c.put_word-in-Ok-Duplicate.ensures

pub returns-in-Err : goal.returns-in-Err
returns-in-Err c = refused-written _ _ c.in-Err.is c.put_refusal.ensures
