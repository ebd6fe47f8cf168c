-- Where all the answers to a letter lead.
use Rattle.std.specs.Prelude.{ℕ, ◌+◌, ◌*◌, false, cond, ◌&&◌, List, [], ◌∷◌, Some, None, Option, ◌==◌, nat_lt, slice_index_or}
use Rattle.book.specs.declared.leads.Leads.{Leads}
use Rattle.book.specs.declared.leads.Leads.TheVariants.{Nowhere, To, Apart}
use Rattle.book.specs.declared.leads.Joint.{Joint}
use Rattle.book.specs.declared.leads.LeadsTable.{LeadsTable}

-- with an answer more, which leads to the station
abbrev pub joined_with : ℕ → Leads → Leads
joined_with t Nowhere = To t
joined_with t (To u) = cond (u == t) (To t) Apart
joined_with t Apart = Apart

-- where all of them lead
abbrev pub joint : List (Option ℕ) → Leads
joint [] = Nowhere
joint (None ∷ ts) = joint ts
joint (Some t ∷ ts) = joined_with t (joint ts)

-- The table that the code keeps

abbrev pub slot_of : ℕ → ℕ → ℕ
slot_of s l = 16 * l + s

abbrev pub shown : Joint → Leads
shown j = cond j.declared (cond j.apart Apart (To j.to)) Nowhere

abbrev pub undeclared : Joint
undeclared = record { declared = false; apart = false; to = 0 }

abbrev pub leads_in : LeadsTable → ℕ → ℕ → Leads
leads_in t s l = cond (nat_lt s 16 && nat_lt l 16) (shown (slice_index_or t.row (slot_of s l) undeclared)) Nowhere
