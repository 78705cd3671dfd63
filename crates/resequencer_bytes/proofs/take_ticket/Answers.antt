-- `resequencer_bytes::take_ticket` meets its contract: the ticket is read, and 0 is written over
-- its two bytes.
-- Assumes nothing.
use Rattle.refusal.proofs.Clauses.{two}
use Rattle.resequencer_bytes.proofs.Writing.{ticket-written}
use Rattle.resequencer_bytes.proofs.take_ticket.Goals as goal

pub returns : goal.returns
returns c =
    two (λ p q. record { value = p; state_after = q }) (
      c.ticket_of-ticket.ensures,
      ticket-written c.args.state.now c.told-state (λ i h. c.fits-state i) c.args.number 0 _ c.requires c.put.ensures,
    )
