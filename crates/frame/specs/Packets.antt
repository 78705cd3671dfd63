-- The packets as types: document 01, "Forms and frames", the list of fields, and document 02, Q-4.
-- A packet is its kind and the values of the free fields of the kind's layout, in their order;
-- `frame_kinds` has the layouts. One record serves both directions of a CALL packet.
-- Assumes nothing.
use Rattle.std.specs.Prelude.{List, [], ◌∷◌, ℕ, eqb, get_or, drop, Result, Option, Some, None}
use Rattle.refusal.specs.declared.Fault.{Fault}
use Rattle.sequence.specs.declared.LinkNumber.{LinkNumber}
use Rattle.sequence.specs.Numbers.{link, packet}
use Rattle.little.specs.Little.{flag}
use Rattle.frame_kinds.specs.declared.Kind.{Kind}
use Rattle.frame_kinds.specs.declared.Kind.TheVariants.{Data as DataKind, ClearRequest as ClearRequestKind, ClearConfirmation as ClearConfirmationKind, CallRequest as CallRequestKind, CallAccept as CallAcceptKind, ReceiveReady as ReceiveReadyKind, ReceiveNotReady as ReceiveNotReadyKind, Reject as RejectKind, Interrupt as InterruptKind, InterruptConfirmation as InterruptConfirmationKind, Reset as ResetKind, ResetConfirmation as ResetConfirmationKind}
use Rattle.frame_kinds.specs.declared.Found.{Found}
use Rattle.frame_kinds.specs.declared.Found.TheVariants.{Known, Route, Unknown}
use Rattle.frame_kinds.specs.Kinds.{kind_at, ten_bytes}
use Rattle.frame.specs.declared.Data.{Data as DataFields}
use Rattle.frame.specs.declared.ClearRequest.{ClearRequest as ClearRequestFields}
use Rattle.frame.specs.declared.ClearConfirmation.{ClearConfirmation as ClearConfirmationFields}
use Rattle.frame.specs.declared.CallRequest.{CallRequest as CallRequestFields}
use Rattle.frame.specs.declared.CallAccept.{CallAccept as CallAcceptFields}
use Rattle.frame.specs.declared.FlowControl.{FlowControl as FlowControlFields}
use Rattle.frame.specs.declared.Interrupt.{Interrupt as InterruptFields}
use Rattle.frame.specs.declared.Confirmation.{Confirmation as ConfirmationFields}
use Rattle.frame.specs.declared.Reset.{Reset as ResetFields}
use Rattle.frame.specs.declared.Packet.{Packet}
use Rattle.frame.specs.declared.Contents.{Contents}
use Rattle.frame.specs.declared.Packet.TheVariants.{Data, ClearRequest, ClearConfirmation, CallRequest, CallAccept, ReceiveReady, ReceiveNotReady, Reject, Interrupt, InterruptConfirmation, Reset, ResetConfirmation}

-- what reading a frame answers: what the frame contains, or a refusal and the position of the fault
abbrev pub Read : Type 0
Read = Result Contents Fault

-- ---- a packet as its kind and the values of its free fields

-- the kind of a packet
abbrev pub kind_of : Packet → Kind
kind_of (Data d) = DataKind
kind_of (ClearRequest d) = ClearRequestKind
kind_of (ClearConfirmation d) = ClearConfirmationKind
kind_of (CallRequest d) = CallRequestKind
kind_of (CallAccept d) = CallAcceptKind
kind_of (ReceiveReady d) = ReceiveReadyKind
kind_of (ReceiveNotReady d) = ReceiveNotReadyKind
kind_of (Reject d) = RejectKind
kind_of (Interrupt d) = InterruptKind
kind_of (InterruptConfirmation d) = InterruptConfirmationKind
kind_of (Reset d) = ResetKind
kind_of (ResetConfirmation d) = ResetConfirmationKind

-- the values of the free fields, in the order of the layout; a flag is 0 or 1
abbrev pub values_of : Packet → List ℕ
values_of (Data d) = flag d.m ∷ d.sn.0 ∷ d.ps.0 ∷ d.pr.0 ∷ d.ch ∷ []
values_of (ClearRequest d) = d.tc ∷ d.sn.0 ∷ d.ch ∷ d.am ∷ d.ag ∷ d.cc ∷ d.dc ∷ flag d.s ∷ flag d.f ∷ []
values_of (ClearConfirmation d) = d.tc ∷ d.sn.0 ∷ d.ch ∷ d.am ∷ d.ag ∷ []
values_of (CallRequest d) = flag d.p ∷ d.sn.0 ∷ d.tc ∷ d.ch ∷ d.am ∷ d.ag ∷ flag d.s ∷ d.fs ∷ flag d.f ∷ []
values_of (CallAccept d) = d.tc ∷ d.sn.0 ∷ d.ch ∷ d.am ∷ d.ag ∷ flag d.s ∷ flag d.f ∷ []
values_of (ReceiveReady d) = d.sn.0 ∷ d.ch ∷ d.pr.0 ∷ []
values_of (ReceiveNotReady d) = d.sn.0 ∷ d.ch ∷ d.pr.0 ∷ []
values_of (Reject d) = d.sn.0 ∷ d.ch ∷ d.pr.0 ∷ []
values_of (Interrupt d) = flag d.s ∷ flag d.f ∷ d.sn.0 ∷ d.ch ∷ []
values_of (InterruptConfirmation d) = d.sn.0 ∷ d.ch ∷ []
values_of (Reset d) = d.sn.0 ∷ d.ch ∷ d.rc ∷ d.dc ∷ []
values_of (ResetConfirmation d) = d.sn.0 ∷ d.ch ∷ []

-- the fields of each record from these values, in the same order. A flag is set if its value is 1;
-- a missing value is 0
abbrev pub data_of : List ℕ → DataFields
data_of vs = record { m = eqb (get_or vs 0 0) 1; sn = link (get_or vs 1 0); ps = packet (get_or vs 2 0); pr = packet (get_or vs 3 0); ch = get_or vs 4 0 }

abbrev pub clear_request_of : List ℕ → ClearRequestFields
clear_request_of vs = record { tc = get_or vs 0 0; sn = link (get_or vs 1 0); ch = get_or vs 2 0; am = get_or vs 3 0; ag = get_or vs 4 0; cc = get_or vs 5 0; dc = get_or vs 6 0; s = eqb (get_or vs 7 0) 1; f = eqb (get_or vs 8 0) 1 }

abbrev pub clear_confirmation_of : List ℕ → ClearConfirmationFields
clear_confirmation_of vs = record { tc = get_or vs 0 0; sn = link (get_or vs 1 0); ch = get_or vs 2 0; am = get_or vs 3 0; ag = get_or vs 4 0 }

abbrev pub call_request_of : List ℕ → CallRequestFields
call_request_of vs = record { p = eqb (get_or vs 0 0) 1; sn = link (get_or vs 1 0); tc = get_or vs 2 0; ch = get_or vs 3 0; am = get_or vs 4 0; ag = get_or vs 5 0; s = eqb (get_or vs 6 0) 1; fs = get_or vs 7 0; f = eqb (get_or vs 8 0) 1 }

abbrev pub call_accept_of : List ℕ → CallAcceptFields
call_accept_of vs = record { tc = get_or vs 0 0; sn = link (get_or vs 1 0); ch = get_or vs 2 0; am = get_or vs 3 0; ag = get_or vs 4 0; s = eqb (get_or vs 5 0) 1; f = eqb (get_or vs 6 0) 1 }

abbrev pub flow_control_of : List ℕ → FlowControlFields
flow_control_of vs = record { sn = link (get_or vs 0 0); ch = get_or vs 1 0; pr = packet (get_or vs 2 0) }

abbrev pub interrupt_of : List ℕ → InterruptFields
interrupt_of vs = record { s = eqb (get_or vs 0 0) 1; f = eqb (get_or vs 1 0) 1; sn = link (get_or vs 2 0); ch = get_or vs 3 0 }

abbrev pub confirmation_of : List ℕ → ConfirmationFields
confirmation_of vs = record { sn = link (get_or vs 0 0); ch = get_or vs 1 0 }

abbrev pub reset_of : List ℕ → ResetFields
reset_of vs = record { sn = link (get_or vs 0 0); ch = get_or vs 1 0; rc = get_or vs 2 0; dc = get_or vs 3 0 }

-- the packet of a kind with these values
abbrev pub packet_of : Kind → List ℕ → Packet
packet_of DataKind vs = Data (data_of vs)
packet_of ClearRequestKind vs = ClearRequest (clear_request_of vs)
packet_of ClearConfirmationKind vs = ClearConfirmation (clear_confirmation_of vs)
packet_of CallRequestKind vs = CallRequest (call_request_of vs)
packet_of CallAcceptKind vs = CallAccept (call_accept_of vs)
packet_of ReceiveReadyKind vs = ReceiveReady (flow_control_of vs)
packet_of ReceiveNotReadyKind vs = ReceiveNotReady (flow_control_of vs)
packet_of RejectKind vs = Reject (flow_control_of vs)
packet_of InterruptKind vs = Interrupt (interrupt_of vs)
packet_of InterruptConfirmationKind vs = InterruptConfirmation (confirmation_of vs)
packet_of ResetKind vs = Reset (reset_of vs)
packet_of ResetConfirmationKind vs = ResetConfirmation (confirmation_of vs)

-- ---- questions about a packet of any kind

-- the packet if it is DATA, else nothing
abbrev pub as_data : Packet → Option DataFields
as_data (Data d) = Some d
as_data (ClearRequest d) = None
as_data (ClearConfirmation d) = None
as_data (CallRequest d) = None
as_data (CallAccept d) = None
as_data (ReceiveReady d) = None
as_data (ReceiveNotReady d) = None
as_data (Reject d) = None
as_data (Interrupt d) = None
as_data (InterruptConfirmation d) = None
as_data (Reset d) = None
as_data (ResetConfirmation d) = None

-- its link sequence number
abbrev pub sn_of : Packet → LinkNumber
sn_of (Data d) = d.sn
sn_of (ClearRequest d) = d.sn
sn_of (ClearConfirmation d) = d.sn
sn_of (CallRequest d) = d.sn
sn_of (CallAccept d) = d.sn
sn_of (ReceiveReady d) = d.sn
sn_of (ReceiveNotReady d) = d.sn
sn_of (Reject d) = d.sn
sn_of (Interrupt d) = d.sn
sn_of (InterruptConfirmation d) = d.sn
sn_of (Reset d) = d.sn
sn_of (ResetConfirmation d) = d.sn

-- ---- a packet in ten bytes, as `frame_reader` reads it and `frame_writer` takes it

-- the ten bytes of a packet
abbrev pub packet_bytes : Packet → List ℕ
packet_bytes p = ten_bytes (kind_of p) (values_of p)

-- the kind that was found; DATA for a ROUTE, which is no packet of these, and if there is none
abbrev pub kind_or : Found → Kind
kind_or (Known k) = k
kind_or Route = DataKind
kind_or Unknown = DataKind

-- the packet that ten bytes hold
unfoldable pub packet_at : List ℕ → Packet
packet_at ten = packet_of (kind_or (kind_at (get_or ten 0 0))) (drop 1 ten)
