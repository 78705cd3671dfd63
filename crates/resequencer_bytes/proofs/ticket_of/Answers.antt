-- `resequencer_bytes::ticket_of` meets its contract: the two bytes read are those of the ticket.
-- Assumes nothing.
use mathlib.Core.Path.{◌∙◌}
use Rattle.resequencer_bytes.proofs.Reading.{ticket-bytes}
use Rattle.resequencer_bytes.proofs.ticket_of.Goals as goal

pub returns : goal.returns
returns c = c.from_le_bytes.ensures ∙ ticket-bytes c.args.state.now c.args.number c.told-state c.requires
