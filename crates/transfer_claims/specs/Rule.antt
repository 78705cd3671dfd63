-- The rule by which the program `transfer_demo` disorders and repeats frames: one of the lists of
-- events that specs/Claims.antt allows (specs/Within.antt claims that it is).
-- Assumes nothing.
use Rattle.std.specs.Prelude.{Bool, true, cond, List, [], ◌∷◌, ℕ, zero, suc, ◌+◌, ◌*◌, ◌/◌, ◌%◌, ltb, get_or}
use Rattle.frame_form.specs.declared.Form.{Form}
use Rattle.frame_form.specs.declared.Form.TheVariants.{LongDownlink}
use Rattle.resequencer_claims.specs.Events.{Event, packet, stray, clock_end}

-- the form of its frames: long downlink, of at most 3 segments, so that a long message has more
-- than 64 frames and SN wraps
abbrev pub demo_form : Form
demo_form = LongDownlink 3

-- The twelve events for the eight frames at places `first` to `first` + 7. Two frames arrive twice;
-- among the events are the end of a clock that is not running and an arrival with SN 64, which
-- exceeds its field. The resequencer refuses both.
abbrev pub turns : ℕ → List Event
turns first =
    packet (first + 2)
    ∷ packet first
    ∷ packet (first + 2)
    ∷ packet (first + 5)
    ∷ packet (first + 1)
    ∷ packet (first + 3)
    ∷ clock_end ((first + 2) % 64)
    ∷ packet (first + 7)
    ∷ packet (first + 4)
    ∷ packet first
    ∷ packet (first + 6)
    ∷ stray 64 0
    ∷ []

-- the event of a step: twelve steps for each eight frames, counted from 0
unfoldable pub call_at : ℕ → Event
call_at step = get_or (turns (step / 12 * 8)) (step % 12) (stray 64 0)

-- whether an event takes place, if there are `count` frames: a frame past the last does not arrive
abbrev pub takes_place : ℕ → Event → Bool
takes_place count (packet place) = ltb place count
takes_place count (stray sn ticket) = true
takes_place count (clock_end sn) = true

-- the events that take place in the m steps starting at `step`
unfoldable pub calls_from : ℕ → ℕ → ℕ → List Event
calls_from count step zero = []
calls_from count step (suc m) = cond (takes_place count (call_at step)) (call_at step ∷ calls_from count (suc step) m) (calls_from count (suc step) m)

-- all events, for `count` frames: twelve steps for each eight frames begun
abbrev pub all_calls : ℕ → List Event
all_calls count = calls_from count 0 ((count + 7) / 8 * 12)
