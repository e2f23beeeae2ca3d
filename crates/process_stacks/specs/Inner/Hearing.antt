-- Hearing the lines of a stack.
use Rattle.std.specs.Prelude.{◌≡◌, ℕ, ◌+◌, ◌<◌, ◌&&◌, nat_eq, List, ◌++◌, length, drop, codes, Option, None, Some, if◌then◌else◌}
use Rattle.std.specs.List.{filter_map, flat_map, starts_with}
use Rattle.dump_io.specs.Colons.{after_colon, has_colon}
use Rattle.dump_io.specs.Lines.{Line, text_of}
use Rattle.text_groups.specs.Cut.{cut_text}
use Rattle.process_stacks.specs.Places.{place_line}
use Rattle.process_stacks.specs.declared.frame_sink.FrameSink.{FrameSink}
use Rattle.process_stacks.specs.declared.frame_sink.Stop.{Stop}
use Rattle.process_stacks.specs.declared.frame_sink.Stop.TheVariants.{Full, NoMemory}

-- the info of a line of the stack, if it has one: what follows the `S` directly behind its first colon
abbrev pub info_of : List ℕ → Option (List ℕ)
info_of text =
    if has_colon text && starts_with nat_eq (after_colon text) (codes "S") then Some (drop 1 (after_colon text)) else None

-- the info of a raw line
abbrev pub raw_info : List ℕ → Option (List ℕ)
raw_info raw = info_of (text_of raw)

-- the infos of raw lines
abbrev pub raw_infos : List (List ℕ) → List (List ℕ)
raw_infos raws = filter_map raw_info raws

-- the infos of lines
abbrev pub line_infos : List Line → List (List ℕ)
line_infos lines = filter_map (λ line. raw_info line.raw) lines

-- the lines of frames, of which the infos are given whole
abbrev pub frame_lines : List (List ℕ) → List ℕ
frame_lines texts = flat_map (λ text. place_line (codes "frame") (cut_text text)) texts

-- these infos were taken as frames
pub record Takes (old new : FrameSink) (texts : List (List ℕ)) : Type 0 where
  pub left : new.left + length texts ≡ old.left
  pub lines : new.lines.items ≡ old.lines.items ++ frame_lines texts

-- these infos were taken as frames, and no more are wanted; memory may be lacking at any time
abbrev pub StopsTaking : FrameSink → FrameSink → List (List ℕ) → Stop → Type 0
StopsTaking old new texts Full = Takes old new texts × (new.left ≡ 0)
StopsTaking old new texts NoMemory = Unit {0}

-- taking the infos of raw lines stopped at one of them: those up
-- to it were taken and no more are wanted, or memory was lacking
pub record StopsWithin (old new : FrameSink) (raws : List (List ℕ)) (stop : Stop) : Type 0 where
  pub heard : List (List ℕ)
  pub rest : List (List ℕ)
  pub parts : raws ≡ heard ++ rest
  pub stopped : StopsTaking old new (raw_infos heard) stop

-- the infos of these lines were taken as frames
abbrev pub TakesLines : FrameSink → FrameSink → List Line → Type 0
TakesLines old new lines = Takes old new (line_infos lines)

-- the infos of these lines were taken as frames, and no more are wanted; memory may be lacking at any time
abbrev pub StopsAt : FrameSink → FrameSink → List Line → Stop → Type 0
StopsAt old new lines stop = StopsTaking old new (line_infos lines) stop

-- there are frames that are wanted
abbrev pub IsOpen : FrameSink → Type 0
IsOpen sink = 0 < sink.left
