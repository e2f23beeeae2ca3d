-- What contracts see of a form: its value, regardless of where it lies in memory.
use Rattle.term_forms.specs.Forms.{HeapForm, Cons, Tuple, Float, Long, Pid, Port, Ext, HeapBin, RefBin, SubBin, Flat, Hash, Node}
use Rattle.term_forms.specs.Seen.{element}
use Rattle.term_forms.specs.declared.shapes.Form.{Form}
use Rattle.term_forms.specs.declared.shapes.Form.TheVariants as form

-- the value of a form
abbrev pub heap_form : Form → HeapForm
heap_form (form.List head tail) = Cons (element head) (element tail)
heap_form (form.Tuple elements) = Tuple elements
heap_form (form.Float bytes) = Float bytes.now
heap_form (form.Long number) = Long number.now
heap_form (form.Pid pid) = Pid pid.now
heap_form (form.Port port) = Port port.now
heap_form (form.Ext size chars) = Ext size chars.now
heap_form (form.HeapBin size chars) = HeapBin size chars.now
heap_form (form.RefBin address offset size) = RefBin address offset size
heap_form (form.SubBin address offset size) = SubBin address offset size
heap_form (form.Flat keys values) = Flat (element keys) values
heap_form (form.Hash size children) = Hash size children
heap_form (form.Node children) = Node children
