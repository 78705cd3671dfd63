-- The kinds of packets: document 01, "Forms and frames", the list of fields, and document 02, Q-4,
-- with the layouts of document 001, 5.2.5.2 and 5.2.5.3. Each kind has a layout, the list of its
-- header's fields; and a packet of any kind is ten bytes.
-- Assumes nothing.
use Rattle.std.specs.Prelude.{Bool, true, false, cond, List, [], ◌∷◌, ◌++◌, ℕ, suc, ◌-◌, eqb, length, replicate}
use Rattle.frame_fields.specs.Layouts.{Field, fixed, free, lv, Layout, opens_with}
use Rattle.frame_form.specs.declared.Form.{Form}
use Rattle.frame_form.specs.Forms.{is_uplink}
use Rattle.frame_kinds.specs.declared.Kind.{Kind}
use Rattle.frame_kinds.specs.declared.Kind.TheVariants.{Data, ClearRequest, ClearConfirmation, CallRequest, CallAccept, ReceiveReady, ReceiveNotReady, Reject, Interrupt, InterruptConfirmation, Reset, ResetConfirmation}
use Rattle.frame_kinds.specs.declared.Found.{Found}
use Rattle.frame_kinds.specs.declared.Found.TheVariants.{Known, Route, Unknown}

-- ---- the first fields, by which a kind is known. `fixed w v` is a field of w bits that must be v

-- the first fields of a packet that is not DATA: DP 1 = 0, MP 1 = 1, SP 2, ST 2
abbrev pub supervisory : ℕ → ℕ → List Field
supervisory sp st = fixed 1 0 ∷ fixed 1 1 ∷ fixed 2 sp ∷ fixed 2 st ∷ []

-- those of a packet with SP = 3 and ST = 3, where SS 2 tells the kind
abbrev pub supplementary : ℕ → List Field
supplementary ss = fixed 1 0 ∷ fixed 1 1 ∷ fixed 2 3 ∷ fixed 2 3 ∷ fixed 2 ss ∷ []

-- those of each kind
abbrev pub lead_of : Kind → List Field
lead_of Data = fixed 1 1 ∷ []
lead_of ClearRequest = supervisory 1 2
lead_of ClearConfirmation = supervisory 1 3
lead_of CallRequest = supervisory 1 0
lead_of CallAccept = supervisory 1 1
lead_of ReceiveReady = supervisory 2 0
lead_of ReceiveNotReady = supervisory 2 1
lead_of Reject = supplementary 1
lead_of Interrupt = supervisory 3 1
lead_of InterruptConfirmation = supplementary 0
lead_of Reset = supervisory 2 2
lead_of ResetConfirmation = supervisory 2 3

-- ---- the other fields, up to the user data. Fill is `fixed w 0`, `free w` is a field of w bits
-- with a value of the packet, `lv w` is LV. `up` is whether the frame is an uplink one. A CALL
-- packet has the same values in both directions; the field that a direction has no place for is
-- free with 0 bits, so that it is 0

-- "DATA: DP 1 bit = 1, M 1, SN 6, PS 4, PR 4, CH 4, LV 4, user data. Header 3 bytes."
-- "CLEAR REQUEST: DP 1 = 0, MP 1 = 1, SP 2 = 1, ST 2 = 2, fill 2, TC 2, SN 6, CH 4, AM 4, AG 8, CC
-- 8, DC 8, S 1, fill 2, F 1, LV 4, user data. Header 7 bytes."
-- "CLEAR CONFIRMATION: as above up to AG, with ST = 3. 4 bytes, no user data"
-- CALL REQUEST, ground: fill 2, P 1, fill 1, SN 6, fill 2, TC 2, AM 4, AG 8, S 1, FS 2, F 1, LV 4,
-- user data; air: CH 4 in the place of the second fill and TC. Header 5 bytes.
-- CALL ACCEPT, ground: fill 2, fill 2, SN 6, CH 4, AM 4, AG 8, S 1, fill 2, F 1, LV 4, user data;
-- air: TC 2 in the place of the second fill. Header 5 bytes.
-- RR, RNR: fill 2, fill 2, SN 6, CH 4, PR 4. REJECT: fill 2, SN 6, CH 4, PR 4. 3 bytes.
-- INTERRUPT: fill 2, S 1, F 1, SN 6, CH 4, LV 4, user data. Header 3 bytes.
-- INTERRUPT CONFIRMATION: fill 2, SN 6, CH 4, fill 4. 3 bytes.
-- RESET: fill 2, fill 2, SN 6, CH 4, fill 4, RC 8, DC 8. 5 bytes.
-- RESET CONFIRMATION: fill 2, fill 2, SN 6, CH 4, fill 4. 3 bytes.
abbrev pub rest_of : Bool → Kind → List Field
rest_of up Data = free 1 ∷ free 6 ∷ free 4 ∷ free 4 ∷ free 4 ∷ lv 4 ∷ []
rest_of up ClearRequest = fixed 2 0 ∷ free 2 ∷ free 6 ∷ free 4 ∷ free 4 ∷ free 8 ∷ free 8 ∷ free 8 ∷ free 1 ∷ fixed 2 0 ∷ free 1 ∷ lv 4 ∷ []
rest_of up ClearConfirmation = fixed 2 0 ∷ free 2 ∷ free 6 ∷ free 4 ∷ free 4 ∷ free 8 ∷ []
rest_of true CallRequest = fixed 2 0 ∷ free 1 ∷ fixed 1 0 ∷ free 6 ∷ fixed 2 0 ∷ free 2 ∷ free 0 ∷ free 4 ∷ free 8 ∷ free 1 ∷ free 2 ∷ free 1 ∷ lv 4 ∷ []
rest_of false CallRequest = fixed 2 0 ∷ free 1 ∷ fixed 1 0 ∷ free 6 ∷ free 0 ∷ free 4 ∷ free 4 ∷ free 8 ∷ free 1 ∷ free 2 ∷ free 1 ∷ lv 4 ∷ []
rest_of true CallAccept = fixed 2 0 ∷ fixed 2 0 ∷ free 0 ∷ free 6 ∷ free 4 ∷ free 4 ∷ free 8 ∷ free 1 ∷ fixed 2 0 ∷ free 1 ∷ lv 4 ∷ []
rest_of false CallAccept = fixed 2 0 ∷ free 2 ∷ free 6 ∷ free 4 ∷ free 4 ∷ free 8 ∷ free 1 ∷ fixed 2 0 ∷ free 1 ∷ lv 4 ∷ []
rest_of up ReceiveReady = fixed 2 0 ∷ fixed 2 0 ∷ free 6 ∷ free 4 ∷ free 4 ∷ []
rest_of up ReceiveNotReady = fixed 2 0 ∷ fixed 2 0 ∷ free 6 ∷ free 4 ∷ free 4 ∷ []
rest_of up Reject = fixed 2 0 ∷ free 6 ∷ free 4 ∷ free 4 ∷ []
rest_of up Interrupt = fixed 2 0 ∷ free 1 ∷ free 1 ∷ free 6 ∷ free 4 ∷ lv 4 ∷ []
rest_of up InterruptConfirmation = fixed 2 0 ∷ free 6 ∷ free 4 ∷ fixed 4 0 ∷ []
rest_of up Reset = fixed 2 0 ∷ fixed 2 0 ∷ free 6 ∷ free 4 ∷ fixed 4 0 ∷ free 8 ∷ free 8 ∷ []
rest_of up ResetConfirmation = fixed 2 0 ∷ fixed 2 0 ∷ free 6 ∷ free 4 ∷ fixed 4 0 ∷ []

-- the header's length in bytes
abbrev pub size_of : Kind → ℕ
size_of Data = 3
size_of ClearRequest = 7
size_of ClearConfirmation = 4
size_of CallRequest = 5
size_of CallAccept = 5
size_of ReceiveReady = 3
size_of ReceiveNotReady = 3
size_of Reject = 3
size_of Interrupt = 3
size_of InterruptConfirmation = 3
size_of Reset = 5
size_of ResetConfirmation = 3

-- the layout of each kind in a direction, and in a form
abbrev pub layout_in : Bool → Kind → Layout
layout_in up k = record { kind = lead_of k; rest = rest_of up k; size = size_of k; strings = false }

abbrev pub layout_of : Form → Kind → Layout
layout_of form k = layout_in (is_uplink form) k

-- ---- ROUTE, which has no SN and no user data: OF 1, IN 1, RTL 8, the table, of RTL bytes; and, if
-- OF = 1, ODL 8 and the optional data, of ODL bytes. The table is the first string, the data the
-- second; the header has 2 bytes. The same in both directions
abbrev pub route_layout : Layout
route_layout = record { kind = supervisory 3 0; rest = free 1 ∷ free 1 ∷ free 8 ∷ []; size = 2; strings = true }

-- ---- the kinds that a reader knows, in the order in which it tries them, before ROUTE; no first
-- byte names two of them
abbrev pub kinds : List Kind
kinds = Data ∷ CallRequest ∷ CallAccept ∷ ClearRequest ∷ ClearConfirmation ∷ ReceiveReady ∷ ReceiveNotReady ∷ Reset ∷ ResetConfirmation ∷ Interrupt ∷ InterruptConfirmation ∷ Reject ∷ []

-- the first of the given kinds whose leading fixed fields are the first bits of the byte `first`;
-- if there is none, ROUTE if its are
abbrev pub first_named : List Kind → ℕ → Found
first_named [] first = cond (opens_with route_layout.kind first) Route Unknown
first_named (k ∷ ks) first = cond (opens_with (lead_of k) first) (Known k) (first_named ks first)

-- ---- a packet in ten bytes: the number of its kind, the values of its free fields in their order,
-- a flag as 0 or 1, then zero bytes

-- the number of a kind
abbrev pub kind_number : Kind → ℕ
kind_number Data = 0
kind_number ClearRequest = 1
kind_number ClearConfirmation = 2
kind_number CallRequest = 3
kind_number CallAccept = 4
kind_number ReceiveReady = 5
kind_number ReceiveNotReady = 6
kind_number Reject = 7
kind_number Interrupt = 8
kind_number InterruptConfirmation = 9
kind_number Reset = 10
kind_number ResetConfirmation = 11

abbrev pub route_number : ℕ
route_number = 12

-- the first of the given kinds that has the number n, if there is one, or ROUTE; and so the kind
-- with the number n
abbrev pub first_numbered : List Kind → ℕ → Found
first_numbered [] n = cond (eqb n route_number) Route Unknown
first_numbered (k ∷ ks) n = cond (eqb n (kind_number k)) (Known k) (first_numbered ks n)

unfoldable pub kind_at : ℕ → Found
kind_at n = first_numbered kinds n

-- how many fields are free
abbrev pub free_count : List Field → ℕ
free_count [] = 0
free_count (fixed w v ∷ fs) = free_count fs
free_count (free w ∷ fs) = suc (free_count fs)
free_count (lv w ∷ fs) = free_count fs

-- how many values a packet of a kind has, the same in both directions
abbrev pub value_count : Kind → ℕ
value_count k = free_count (rest_of true k)

-- ten bytes with this number and these values
unfoldable pub ten_of : ℕ → List ℕ → List ℕ
ten_of n values = n ∷ (values ++ replicate (9 - length values) 0)

-- the ten bytes of a packet of kind k with these values
abbrev pub ten_bytes : Kind → List ℕ → List ℕ
ten_bytes k values = ten_of (kind_number k) values
