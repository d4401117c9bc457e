-- Rules R68, R156 to R175: what a client's request is answered with.
-- Assumes nothing.
use Rattle.std.specs.Prelude.{ℕ, Bool, false, not, ◌&&◌, [], ◌∷◌, eqb, leb}
use Rattle.clock.specs.Numbers.{start_in_range, fits, serves}
use Rattle.clock.specs.declared.Count.{Count}
use Rattle.clock.specs.declared.Quanta.{Quanta}
use Rattle.frame.specs.Card.{◌unless◌, given}
use Rattle.frame.specs.declared.Address.{Address}
use Rattle.frame.specs.declared.Body.TheVariants.{Discovery, Register}
use Rattle.frame.specs.declared.RegisterFlag.{RegisterFlag}
use Rattle.frame.specs.declared.Reply.{Reply}
use Rattle.frame.specs.declared.Reply.TheVariants.{Range, State, Grant, Held, Full}
use Rattle.frame_range.specs.Fits.{is_individual}
use Rattle.head_gating.specs.Asked.{grants_of, fits as fits_asked}
use Rattle.head_gating.specs.declared.Asked.{Asked}
use Rattle.head_state.specs.Head.{with_window}
use Rattle.head_state.specs.Window.{fits as fits_window, is_idle, opened}
use Rattle.head_state.specs.declared.Head.{Head}
use Rattle.head_links.specs.Link.{is_held, is_registered}
use Rattle.head_links.specs.declared.Change.{Change}
use Rattle.head_links.specs.declared.Link.{Link}
use Rattle.head_survey.specs.declared.Facts.{Facts}
use Rattle.head_table.specs.declared.Event.TheVariants.{At}
use Rattle.head_plans.specs.Plan.{refused, accepted, sending}
use Rattle.head_plans.specs.declared.Plan.{Plan}

-- R47
unfoldable pub fits_lengths : Quanta → Quanta → Bool
fits_lengths length sync = fits length && fits sync

-- R158
unfoldable pub may_open : Count → Count → Quanta → Quanta → Quanta → Bool
may_open now start length sync window = start_in_range now.0 start.0 && serves sync.0 length.0 && fits_window window

-- R156 to R160
unfoldable pub open_of : Head → Count → Quanta → Quanta → Quanta → Plan
open_of h start length sync window =
    given
    (State unless is_idle h.window
    ∷ Range unless fits_lengths length sync
    ∷ Grant unless may_open h.count start length sync window
    ∷ [])
    (refused h)
    (sending (with_window h (opened h.count start window)) (record { 0 = 0x0180C2000001 })
    (Discovery (record { start = start; length = length; force = false }) sync))

-- R166
unfoldable pub fits_party : Address → Quanta → Bool
fits_party a sync = is_individual a && fits sync

-- R162, R163
unfoldable pub admit_of : Head → Facts → Address → ℕ → Quanta → Plan
admit_of h f a pending sync =
    given
    (Range unless fits_party a sync
    ∷ Held unless not f.held
    ∷ Full unless not (eqb f.idle 0)
    ∷ [])
    (refused h) (accepted h (At f.idle (Change.Admit a pending sync)))

-- R164, R165
unfoldable pub reject_of : Head → Address → ℕ → Quanta → Plan
reject_of h a pending sync =
    given (Range unless fits_party a sync ∷ []) (refused h) (sending h a (Register 0 RegisterFlag.Nack sync pending))

-- R167 to R170
unfoldable pub reregister_of : Head → Link → ℕ → Quanta → Plan
reregister_of h l link sync =
    given
    (Reply.Link unless is_held l.state
    ∷ State unless is_registered l.state
    ∷ Range unless fits sync
    ∷ [])
    (refused h) (accepted h (At link (Change.Reregister sync)))

unfoldable pub deregister_of : Head → Link → ℕ → Plan
deregister_of h l link =
    given
    (Reply.Link unless is_held l.state
    ∷ State unless is_registered l.state
    ∷ [])
    (refused h) (accepted h (At link Change.Deregister))

-- R167, R171 to R174
unfoldable pub gate_of : Head → Link → ℕ → Asked → Plan
gate_of h l link asked =
    given
    (Reply.Link unless is_held l.state
    ∷ Range unless fits_asked asked
    ∷ Grant unless leb asked.number 4
    ∷ [])
    (refused h) (accepted h (At link (Change.Gate (grants_of asked))))
