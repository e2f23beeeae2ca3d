-- The law on the texts of trees.
use Rattle.std.specs.Prelude.{◌≡◌, ℕ, ◌<◌, ◌^◌, true, List, length, nat_eq, Option, Some, IfSome, All}
use Rattle.std.specs.List.{starts_with}
use Rattle.serde_json.specs.Data.{Data}
use Rattle.serde_json.specs.Read.{read}
use Rattle.serde_json.specs.Written.{compact_text}
use Rattle.dump_sections.specs.Index.{index_of}
use Rattle.dump_sections.specs.Versions.{signature}
use Rattle.process_table.specs.Processes.{process_table}
use Rattle.dump_audit.specs.Findings.{audit_of}
use Rattle.dump_audit.specs.declared.finding.Finding.{Finding}
use Rattle.dump_audit.specs.declared.finding.Finding.TheVariants.{LinkOneSided, MonitorTo, MonitorFrom, Mailbox, UnreadLinks, UnreadQueue, LinkGone, ToGone, FromGone, QueueCount}
use Rattle.json_report.specs.Trees.{audit_tree}

-- the numbers of a finding fit into 64 bits, as those of each finding in the program do
abbrev pub Has64Bits : Finding → Type 0
Has64Bits (LinkOneSided p q entry at other) = (at < 2 ^ 64) × (other < 2 ^ 64)
Has64Bits (MonitorTo p q entry at other) = (at < 2 ^ 64) × (other < 2 ^ 64)
Has64Bits (MonitorFrom p q entry at other) = (at < 2 ^ 64) × (other < 2 ^ 64)
Has64Bits (Mailbox p count at other) = (at < 2 ^ 64) × (other < 2 ^ 64) × (count < 2 ^ 64)
Has64Bits (UnreadLinks p at other) = (at < 2 ^ 64) × (other < 2 ^ 64)
Has64Bits (UnreadQueue p at other) = (at < 2 ^ 64) × (other < 2 ^ 64)
Has64Bits (LinkGone p entry at other) = (at < 2 ^ 64) × (other < 2 ^ 64)
Has64Bits (ToGone p entry at other) = (at < 2 ^ 64) × (other < 2 ^ 64)
Has64Bits (FromGone p entry at other) = (at < 2 ^ 64) × (other < 2 ^ 64)
Has64Bits (QueueCount p stated found at other) = (at < 2 ^ 64) × (other < 2 ^ 64) × (stated < 2 ^ 64) × (found < 2 ^ 64)

-- the bytes of a dump in a file: they begin as a dump does, and there are fewer than 2^64
pub record AreOfFile (bytes : List ℕ) : Type 0 where
  pub begins : starts_with nat_eq bytes signature ≡ true
  pub size : length bytes < 2 ^ 64

-- numbers of messages fit into 64 bits
abbrev pub AreCounts : Option (List (Option ℕ)) → Type 0
AreCounts mails = IfSome mails (λ counts. All (λ count. IfSome count (λ n. n < 2 ^ 64)) counts)

-- the text of a tree is read back as that tree
abbrev pub IsReadBack : Data → Type 0
IsReadBack tree = read (compact_text tree) ≡ Some tree

-- the text of each audit of a dump in a file is read back as the tree of that audit
abbrev pub ReadsBack : Type 0
ReadsBack = (bytes : List ℕ) (limit : ℕ) (mails : Option (List (Option ℕ))) → AreOfFile bytes → AreCounts mails
    → IsReadBack (audit_tree (audit_of (index_of bytes) (process_table bytes).processes limit mails))
