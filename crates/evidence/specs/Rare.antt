-- Further traces of the reference program, picked so that rarer answers come. Made by `tools/evidence --make Rare.antt`.
use Rattle.std.specs.Prelude.{false, true, [], ◌∷◌, ◌++◌, replicate, Some, None}
use Rattle.std.specs.List.{range_with_len}
use Rattle.pmem_base.specs.declared.commands.Command.TheVariants as Do
use Rattle.pmem_base.specs.declared.answers.Mark.TheVariants.{Begin, Seal}
use Rattle.pmem_base.specs.declared.answers.Answer.TheVariants as Say
use Rattle.pmem_base.specs.declared.answers.Place.TheVariants as Place
use Rattle.pmem_base.specs.declared.answers.Exhibit.TheVariants.{Twin}
use Rattle.pmem_base.specs.Lines.{line_of, filled_line}
use Rattle.suite.specs.Setup.{Setup}
use Rattle.evidence.specs.Samples.{weak, blur, ctr, short_tag}
use Rattle.evidence.specs.Traces.{Trace, answered, answered_with}

-- With tampering, 60 commands
abbrev pub rare_1_setup : Setup
rare_1_setup =
    record {
      shape = record { levels = 2; sets = 1; ways = 1; loss = 4; major = 0; persist = 0; shadow = true; durable = false; combines = false };
      formulas = weak;
    }

abbrev pub rare_1 : Trace
rare_1 =
    answered (Do.Post 0 64 (filled_line 189)) Say.Ok
    ∷ answered Do.Turn Say.Idle
    ∷ answered (Do.Read 1 64) (Say.Got (filled_line 0) 0)
    ∷ answered (Do.Post 0 0 (filled_line 95)) Say.Ok
    ∷ answered (Do.Read 0 64) (Say.Got (filled_line 189) 0)
    ∷ answered Do.On Say.Already
    ∷ answered (Do.Loss 4) (Say.LossSet 0)
    ∷ answered (Do.Post 1 0 (filled_line 6)) Say.Ok
    ∷ answered (Do.Back 1296) Say.NoSnap
    ∷ answered (Do.Peek 1021) (Say.Raw (line_of (253 ∷ 254 ∷ 255 ∷ range_with_len 0 61)))
    ∷ answered (Do.Post 0 64 (filled_line 131)) Say.Ok
    ∷ answered (Do.Post 0 0 (filled_line 73)) Say.Ok
    ∷ answered_with (Do.Drain 0) ((Seal 64 (ctr 0 1) (line_of (252 ∷ 255 ∷ 254 ∷ 249 ∷ 248 ∷ 251 ∷ 250 ∷ 245 ∷ 244 ∷ 247 ∷ 246 ∷ 241 ∷ 240 ∷ 243 ∷ 242 ∷ 237 ∷ 236 ∷ 239 ∷ 238 ∷ 233 ∷ 232 ∷ 235 ∷ 234 ∷ 229 ∷ 228 ∷ 231 ∷ 230 ∷ 225 ∷ 224 ∷ 227 ∷ 226 ∷ 221 ∷ 220 ∷ 223 ∷ 222 ∷ 217 ∷ 216 ∷ 219 ∷ 218 ∷ 213 ∷ 212 ∷ 215 ∷ 214 ∷ 209 ∷ 208 ∷ 211 ∷ 210 ∷ 205 ∷ 204 ∷ 207 ∷ 206 ∷ 201 ∷ 200 ∷ 203 ∷ 202 ∷ 197 ∷ 196 ∷ 199 ∷ 198 ∷ 193 ∷ 192 ∷ 195 ∷ 194 ∷ 61 ∷ [])) (short_tag 145)) ∷ []) (Say.Drained 7)
    ∷ answered_with (Do.Drain 0) ((Seal 0 (ctr 0 1) (line_of (94 ∷ 93 ∷ 92 ∷ 91 ∷ 90 ∷ 89 ∷ 88 ∷ 87 ∷ 86 ∷ 85 ∷ 84 ∷ 83 ∷ 82 ∷ 81 ∷ 80 ∷ 79 ∷ 78 ∷ 77 ∷ 76 ∷ 75 ∷ 74 ∷ 73 ∷ 72 ∷ 71 ∷ 70 ∷ 69 ∷ 68 ∷ 67 ∷ 66 ∷ 65 ∷ 64 ∷ 127 ∷ 126 ∷ 125 ∷ 124 ∷ 123 ∷ 122 ∷ 121 ∷ 120 ∷ 119 ∷ 118 ∷ 117 ∷ 116 ∷ 115 ∷ 114 ∷ 113 ∷ 112 ∷ 111 ∷ 110 ∷ 109 ∷ 108 ∷ 107 ∷ 106 ∷ 105 ∷ 104 ∷ 103 ∷ 102 ∷ 101 ∷ 100 ∷ 99 ∷ 98 ∷ 97 ∷ 96 ∷ 31 ∷ [])) (short_tag 81)) ∷ []) (Say.Drained 6)
    ∷ answered_with (Do.Drain 0) ((Seal 64 (ctr 0 2) (line_of (193 ∷ 192 ∷ 199 ∷ 198 ∷ 197 ∷ 196 ∷ 203 ∷ 202 ∷ 201 ∷ 200 ∷ 207 ∷ 206 ∷ 205 ∷ 204 ∷ 211 ∷ 210 ∷ 209 ∷ 208 ∷ 215 ∷ 214 ∷ 213 ∷ 212 ∷ 219 ∷ 218 ∷ 217 ∷ 216 ∷ 223 ∷ 222 ∷ 221 ∷ 220 ∷ 227 ∷ 226 ∷ 225 ∷ 224 ∷ 231 ∷ 230 ∷ 229 ∷ 228 ∷ 235 ∷ 234 ∷ 233 ∷ 232 ∷ 239 ∷ 238 ∷ 237 ∷ 236 ∷ 243 ∷ 242 ∷ 241 ∷ 240 ∷ 247 ∷ 246 ∷ 245 ∷ 244 ∷ 251 ∷ 250 ∷ 249 ∷ 248 ∷ 255 ∷ 254 ∷ 253 ∷ 252 ∷ 3 ∷ 2 ∷ [])) (short_tag 82)) ∷ []) (Say.Drained 6)
    ∷ answered Do.Off Say.Ok
    ∷ answered (Do.Part 0 0 62 1 (line_of (63 ∷ replicate 63 0))) Say.Off
    ∷ answered Do.On (Say.Recovered 255 9 5)
    ∷ answered (Do.Fence 0) (Say.Fenced 0 0)
    ∷ answered (Do.Post 0 64 (filled_line 233)) Say.Ok
    ∷ answered Do.Snap Say.Ok
    ∷ answered (Do.Post 0 64 (filled_line 189)) Say.Ok
    ∷ answered_with (Do.Drain 0) ((Seal 64 (ctr 0 3) (line_of (170 ∷ 173 ∷ 172 ∷ 175 ∷ 174 ∷ 161 ∷ 160 ∷ 163 ∷ 162 ∷ 165 ∷ 164 ∷ 167 ∷ 166 ∷ 185 ∷ 184 ∷ 187 ∷ 186 ∷ 189 ∷ 188 ∷ 191 ∷ 190 ∷ 177 ∷ 176 ∷ 179 ∷ 178 ∷ 181 ∷ 180 ∷ 183 ∷ 182 ∷ 137 ∷ 136 ∷ 139 ∷ 138 ∷ 141 ∷ 140 ∷ 143 ∷ 142 ∷ 129 ∷ 128 ∷ 131 ∷ 130 ∷ 133 ∷ 132 ∷ 135 ∷ 134 ∷ 153 ∷ 152 ∷ 155 ∷ 154 ∷ 157 ∷ 156 ∷ 159 ∷ 158 ∷ 145 ∷ 144 ∷ 147 ∷ 146 ∷ 149 ∷ 148 ∷ 151 ∷ 150 ∷ 105 ∷ 104 ∷ 107 ∷ [])) (short_tag 147)) ∷ []) (Say.Drained 7)
    ∷ answered (Do.Move 430 64) Say.Ok
    ∷ answered (Do.Cut 9) Say.Ok
    ∷ answered Do.Turn Say.Idle
    ∷ answered (Do.Post 0 64 (filled_line 205)) Say.Ok
    ∷ answered (Do.Read 1 64) (Say.Refused None (Place.Line 64) 0)
    ∷ answered Do.Turn Say.Idle
    ∷ answered (Do.Fence 1) (Say.Fenced 0 0)
    ∷ answered (Do.Drain 1) Say.Empty
    ∷ answered (Do.Read 0 64) (Say.Got (filled_line 205) 0)
    ∷ answered (Do.Flip 64 501) Say.Ok
    ∷ answered (Do.Cut 0) Say.Ok
    ∷ answered (Do.Drain 0) (Say.CutLost None 0)
    ∷ answered (Do.Fence 0) Say.Off
    ∷ answered (Do.Drain 0) Say.Off
    ∷ answered (Do.Drain 1) Say.Off
    ∷ answered (Do.Post 0 64 (filled_line 39)) Say.Off
    ∷ answered Do.On (Say.NoCounter 64 0)
    ∷ answered Do.On (Say.NoCounter 64 0)
    ∷ answered Do.On (Say.NoCounter 64 0)
    ∷ answered Do.On (Say.NoCounter 64 0)
    ∷ answered Do.On (Say.NoCounter 64 0)
    ∷ answered Do.On (Say.NoCounter 64 0)
    ∷ answered (Do.Poke 0 (filled_line 189)) Say.Ok
    ∷ answered (Do.Post 0 64 (filled_line 16)) Say.Off
    ∷ answered (Do.Post 0 64 (filled_line 8)) Say.Off
    ∷ answered (Do.Post 0 0 (filled_line 23)) Say.Off
    ∷ answered Do.On (Say.NoCounter 64 0)
    ∷ answered Do.On (Say.NoCounter 64 0)
    ∷ answered (Do.Post 0 0 (filled_line 68)) Say.Off
    ∷ answered Do.On (Say.NoCounter 64 0)
    ∷ answered (Do.Loss 4) Say.Off
    ∷ answered Do.On (Say.NoCounter 64 0)
    ∷ answered (Do.Part 0 64 49 12 (line_of (replicate 12 109 ++ replicate 52 0))) Say.Off
    ∷ answered Do.On (Say.NoCounter 64 0)
    ∷ answered (Do.Back 1302) Say.Ok
    ∷ answered Do.On (Say.NoCounter 64 0)
    ∷ answered Do.On (Say.NoCounter 64 0)
    ∷ []

-- With tampering, 60 commands
abbrev pub rare_2_setup : Setup
rare_2_setup =
    record {
      shape = record { levels = 1; sets = 2; ways = 1; loss = 8; major = 0; persist = 0; shadow = true; durable = false; combines = false };
      formulas = weak;
    }

abbrev pub rare_2 : Trace
rare_2 =
    answered (Do.Drain 0) Say.Empty
    ∷ answered (Do.Post 1 0 (filled_line 224)) Say.Ok
    ∷ answered (Do.Cut 2) Say.Ok
    ∷ answered (Do.Drain 0) Say.Empty
    ∷ answered Do.Flush Say.Clean
    ∷ answered (Do.Loss 8) (Say.LossSet 0)
    ∷ answered Do.Snap Say.Ok
    ∷ answered (Do.Post 0 64 (filled_line 92)) Say.Ok
    ∷ answered (Do.Cut 3) Say.Ok
    ∷ answered (Do.Flip 320 227) Say.Ok
    ∷ answered (Do.Part 0 128 48 9 (line_of (replicate 9 129 ++ replicate 55 0))) Say.Ok
    ∷ answered (Do.Drain 0) (Say.Refused None (Place.Meta 0) 0)
    ∷ answered (Do.Part 0 64 46 18 (line_of (replicate 18 80 ++ replicate 46 0))) Say.Ok
    ∷ answered (Do.Post 0 64 (filled_line 121)) Say.Ok
    ∷ answered (Do.Back 321) Say.Ok
    ∷ answered (Do.Part 0 0 21 9 (line_of (replicate 9 251 ++ replicate 55 0))) Say.Ok
    ∷ answered (Do.Post 1 64 (filled_line 235)) Say.Ok
    ∷ answered (Do.Read 0 128) (Say.Refused None (Place.Meta 0) 0)
    ∷ answered (Do.Read 1 64) (Say.Got (filled_line 235) 0)
    ∷ answered (Do.Post 0 0 (filled_line 189)) Say.Ok
    ∷ answered (Do.Fence 0) (Say.Refused (Some 0) (Place.Meta 0) 0)
    ∷ answered (Do.Post 0 64 (filled_line 172)) Say.Ok
    ∷ answered (Do.Peek 212) (Say.Raw (line_of (range_with_len 212 44 ++ range_with_len 0 20)))
    ∷ answered (Do.Drain 0) (Say.Refused None (Place.Meta 0) 0)
    ∷ answered (Do.Move 42 64) Say.Ok
    ∷ answered (Do.Post 1 0 (filled_line 223)) Say.Ok
    ∷ answered (Do.Post 1 64 (filled_line 111)) Say.Ok
    ∷ answered (Do.Drain 0) (Say.Refused None (Place.Meta 0) 0)
    ∷ answered (Do.Post 0 64 (filled_line 212)) Say.Ok
    ∷ answered Do.On Say.Already
    ∷ answered (Do.Drain 0) (Say.Refused None (Place.Meta 0) 0)
    ∷ answered (Do.Drain 0) (Say.Refused None (Place.Meta 0) 0)
    ∷ answered (Do.Loss 3) Say.Range
    ∷ answered (Do.Fence 1) (Say.Refused (Some 0) (Place.Meta 0) 0)
    ∷ answered Do.Flush Say.Clean
    ∷ answered Do.Off Say.Ok
    ∷ answered Do.On (Say.WrongRoot (short_tag 5) (short_tag 13) 0)
    ∷ answered Do.On (Say.WrongRoot (short_tag 5) (short_tag 13) 0)
    ∷ answered Do.On (Say.WrongRoot (short_tag 5) (short_tag 13) 0)
    ∷ answered (Do.Drain 0) Say.Off
    ∷ answered Do.On (Say.WrongRoot (short_tag 5) (short_tag 13) 0)
    ∷ answered (Do.Post 1 128 (filled_line 9)) Say.Off
    ∷ answered Do.On (Say.WrongRoot (short_tag 5) (short_tag 13) 0)
    ∷ answered Do.On (Say.WrongRoot (short_tag 5) (short_tag 13) 0)
    ∷ answered (Do.Drain 1) Say.Off
    ∷ answered Do.On (Say.WrongRoot (short_tag 5) (short_tag 13) 0)
    ∷ answered Do.On (Say.WrongRoot (short_tag 5) (short_tag 13) 0)
    ∷ answered Do.On (Say.WrongRoot (short_tag 5) (short_tag 13) 0)
    ∷ answered Do.On (Say.WrongRoot (short_tag 5) (short_tag 13) 0)
    ∷ answered Do.On (Say.WrongRoot (short_tag 5) (short_tag 13) 0)
    ∷ answered Do.On (Say.WrongRoot (short_tag 5) (short_tag 13) 0)
    ∷ answered Do.On (Say.WrongRoot (short_tag 5) (short_tag 13) 0)
    ∷ answered Do.On (Say.WrongRoot (short_tag 5) (short_tag 13) 0)
    ∷ answered Do.On (Say.WrongRoot (short_tag 5) (short_tag 13) 0)
    ∷ answered Do.On (Say.WrongRoot (short_tag 5) (short_tag 13) 0)
    ∷ answered Do.Flush Say.Off
    ∷ answered Do.On (Say.WrongRoot (short_tag 5) (short_tag 13) 0)
    ∷ answered (Do.Drain 0) Say.Off
    ∷ answered Do.On (Say.WrongRoot (short_tag 5) (short_tag 13) 0)
    ∷ answered (Do.Read 0 128) Say.Off
    ∷ []

-- Without tampering, 312 commands: those before what is proved
abbrev pub rare_3_before : Trace
rare_3_before =
    answered (Do.Post 0 0 (filled_line 58)) Say.Ok
    ∷ answered_with (Do.Drain 0) ((Seal 0 (ctr 18446744073709551615 1) (line_of (58 ∷ 59 ∷ 56 ∷ 57 ∷ 62 ∷ 63 ∷ 60 ∷ 61 ∷ 50 ∷ 51 ∷ 48 ∷ 49 ∷ 54 ∷ 55 ∷ 52 ∷ 53 ∷ 42 ∷ 43 ∷ 40 ∷ 41 ∷ 46 ∷ 47 ∷ 44 ∷ 45 ∷ 34 ∷ 35 ∷ 32 ∷ 33 ∷ 38 ∷ 39 ∷ 36 ∷ 37 ∷ 26 ∷ 27 ∷ 24 ∷ 25 ∷ 30 ∷ 31 ∷ 28 ∷ 29 ∷ 18 ∷ 19 ∷ 16 ∷ 17 ∷ 22 ∷ 23 ∷ 20 ∷ 21 ∷ 10 ∷ 11 ∷ 8 ∷ 9 ∷ 14 ∷ 15 ∷ 12 ∷ 13 ∷ 2 ∷ 3 ∷ 0 ∷ 1 ∷ 6 ∷ 7 ∷ 4 ∷ 5 ∷ [])) (short_tag 17)) ∷ []) (Say.Drained 6)
    ∷ answered (Do.Post 0 0 (filled_line 189)) Say.Ok
    ∷ answered_with (Do.Drain 0) ((Seal 0 (ctr 18446744073709551615 2) (line_of (188 ∷ 191 ∷ 190 ∷ 185 ∷ 184 ∷ 187 ∷ 186 ∷ 181 ∷ 180 ∷ 183 ∷ 182 ∷ 177 ∷ 176 ∷ 179 ∷ 178 ∷ 173 ∷ 172 ∷ 175 ∷ 174 ∷ 169 ∷ 168 ∷ 171 ∷ 170 ∷ 165 ∷ 164 ∷ 167 ∷ 166 ∷ 161 ∷ 160 ∷ 163 ∷ 162 ∷ 157 ∷ 156 ∷ 159 ∷ 158 ∷ 153 ∷ 152 ∷ 155 ∷ 154 ∷ 149 ∷ 148 ∷ 151 ∷ 150 ∷ 145 ∷ 144 ∷ 147 ∷ 146 ∷ 141 ∷ 140 ∷ 143 ∷ 142 ∷ 137 ∷ 136 ∷ 139 ∷ 138 ∷ 133 ∷ 132 ∷ 135 ∷ 134 ∷ 129 ∷ 128 ∷ 131 ∷ 130 ∷ 253 ∷ [])) (short_tag 82)) ∷ []) (Say.Drained 4)
    ∷ answered (Do.Post 0 0 (filled_line 194)) Say.Ok
    ∷ answered_with (Do.Drain 0) ((Seal 0 (ctr 18446744073709551615 3) (line_of (192 ∷ 193 ∷ 198 ∷ 199 ∷ 196 ∷ 197 ∷ 202 ∷ 203 ∷ 200 ∷ 201 ∷ 206 ∷ 207 ∷ 204 ∷ 205 ∷ 210 ∷ 211 ∷ 208 ∷ 209 ∷ 214 ∷ 215 ∷ 212 ∷ 213 ∷ 218 ∷ 219 ∷ 216 ∷ 217 ∷ 222 ∷ 223 ∷ 220 ∷ 221 ∷ 226 ∷ 227 ∷ 224 ∷ 225 ∷ 230 ∷ 231 ∷ 228 ∷ 229 ∷ 234 ∷ 235 ∷ 232 ∷ 233 ∷ 238 ∷ 239 ∷ 236 ∷ 237 ∷ 242 ∷ 243 ∷ 240 ∷ 241 ∷ 246 ∷ 247 ∷ 244 ∷ 245 ∷ 250 ∷ 251 ∷ 248 ∷ 249 ∷ 254 ∷ 255 ∷ 252 ∷ 253 ∷ 130 ∷ 131 ∷ [])) (short_tag 19)) ∷ []) (Say.Drained 4)
    ∷ answered (Do.Post 0 0 (filled_line 94)) Say.Ok
    ∷ answered_with (Do.Drain 0) ((Seal 0 (ctr 18446744073709551615 4) (line_of (93 ∷ 90 ∷ 91 ∷ 88 ∷ 89 ∷ 86 ∷ 87 ∷ 84 ∷ 85 ∷ 82 ∷ 83 ∷ 80 ∷ 81 ∷ 78 ∷ 79 ∷ 76 ∷ 77 ∷ 74 ∷ 75 ∷ 72 ∷ 73 ∷ 70 ∷ 71 ∷ 68 ∷ 69 ∷ 66 ∷ 67 ∷ 64 ∷ 65 ∷ 126 ∷ 127 ∷ 124 ∷ 125 ∷ 122 ∷ 123 ∷ 120 ∷ 121 ∷ 118 ∷ 119 ∷ 116 ∷ 117 ∷ 114 ∷ 115 ∷ 112 ∷ 113 ∷ 110 ∷ 111 ∷ 108 ∷ 109 ∷ 106 ∷ 107 ∷ 104 ∷ 105 ∷ 102 ∷ 103 ∷ 100 ∷ 101 ∷ 98 ∷ 99 ∷ 96 ∷ 97 ∷ 30 ∷ 31 ∷ 28 ∷ [])) (short_tag 84)) ∷ []) (Say.Drained 5)
    ∷ answered (Do.Post 0 0 (filled_line 113)) Say.Ok
    ∷ answered_with (Do.Drain 0) ((Seal 0 (ctr 18446744073709551615 5) (line_of (117 ∷ 116 ∷ 119 ∷ 118 ∷ 121 ∷ 120 ∷ 123 ∷ 122 ∷ 125 ∷ 124 ∷ 127 ∷ 126 ∷ 97 ∷ 96 ∷ 99 ∷ 98 ∷ 101 ∷ 100 ∷ 103 ∷ 102 ∷ 105 ∷ 104 ∷ 107 ∷ 106 ∷ 109 ∷ 108 ∷ 111 ∷ 110 ∷ 81 ∷ 80 ∷ 83 ∷ 82 ∷ 85 ∷ 84 ∷ 87 ∷ 86 ∷ 89 ∷ 88 ∷ 91 ∷ 90 ∷ 93 ∷ 92 ∷ 95 ∷ 94 ∷ 65 ∷ 64 ∷ 67 ∷ 66 ∷ 69 ∷ 68 ∷ 71 ∷ 70 ∷ 73 ∷ 72 ∷ 75 ∷ 74 ∷ 77 ∷ 76 ∷ 79 ∷ 78 ∷ 49 ∷ 48 ∷ 51 ∷ 50 ∷ [])) (short_tag 21)) ∷ []) (Say.Drained 4)
    ∷ answered (Do.Post 0 0 (filled_line 97)) Say.Ok
    ∷ answered_with (Do.Drain 0) ((Seal 0 (ctr 18446744073709551615 6) (line_of (100 ∷ 103 ∷ 102 ∷ 105 ∷ 104 ∷ 107 ∷ 106 ∷ 109 ∷ 108 ∷ 111 ∷ 110 ∷ 113 ∷ 112 ∷ 115 ∷ 114 ∷ 117 ∷ 116 ∷ 119 ∷ 118 ∷ 121 ∷ 120 ∷ 123 ∷ 122 ∷ 125 ∷ 124 ∷ 127 ∷ 126 ∷ 65 ∷ 64 ∷ 67 ∷ 66 ∷ 69 ∷ 68 ∷ 71 ∷ 70 ∷ 73 ∷ 72 ∷ 75 ∷ 74 ∷ 77 ∷ 76 ∷ 79 ∷ 78 ∷ 81 ∷ 80 ∷ 83 ∷ 82 ∷ 85 ∷ 84 ∷ 87 ∷ 86 ∷ 89 ∷ 88 ∷ 91 ∷ 90 ∷ 93 ∷ 92 ∷ 95 ∷ 94 ∷ 33 ∷ 32 ∷ 35 ∷ 34 ∷ 37 ∷ [])) (short_tag 86)) ∷ []) (Say.Drained 4)
    ∷ answered (Do.Post 0 0 (filled_line 101)) Say.Ok
    ∷ answered_with (Do.Drain 0) ((Seal 0 (ctr 18446744073709551615 7) (line_of (99 ∷ 98 ∷ 109 ∷ 108 ∷ 111 ∷ 110 ∷ 105 ∷ 104 ∷ 107 ∷ 106 ∷ 117 ∷ 116 ∷ 119 ∷ 118 ∷ 113 ∷ 112 ∷ 115 ∷ 114 ∷ 125 ∷ 124 ∷ 127 ∷ 126 ∷ 121 ∷ 120 ∷ 123 ∷ 122 ∷ 69 ∷ 68 ∷ 71 ∷ 70 ∷ 65 ∷ 64 ∷ 67 ∷ 66 ∷ 77 ∷ 76 ∷ 79 ∷ 78 ∷ 73 ∷ 72 ∷ 75 ∷ 74 ∷ 85 ∷ 84 ∷ 87 ∷ 86 ∷ 81 ∷ 80 ∷ 83 ∷ 82 ∷ 93 ∷ 92 ∷ 95 ∷ 94 ∷ 89 ∷ 88 ∷ 91 ∷ 90 ∷ 37 ∷ 36 ∷ 39 ∷ 38 ∷ 33 ∷ 32 ∷ [])) (short_tag 23)) ∷ []) (Say.Drained 4)
    ∷ answered (Do.Post 0 0 (filled_line 255)) Say.Ok
    ∷ answered_with (Do.Drain 0) ((Seal 0 (ctr 18446744073709551615 8) (line_of (248 ∷ 247 ∷ 246 ∷ 245 ∷ 244 ∷ 243 ∷ 242 ∷ 241 ∷ 240 ∷ 239 ∷ 238 ∷ 237 ∷ 236 ∷ 235 ∷ 234 ∷ 233 ∷ 232 ∷ 231 ∷ 230 ∷ 229 ∷ 228 ∷ 227 ∷ 226 ∷ 225 ∷ 224 ∷ 223 ∷ 222 ∷ 221 ∷ 220 ∷ 219 ∷ 218 ∷ 217 ∷ 216 ∷ 215 ∷ 214 ∷ 213 ∷ 212 ∷ 211 ∷ 210 ∷ 209 ∷ 208 ∷ 207 ∷ 206 ∷ 205 ∷ 204 ∷ 203 ∷ 202 ∷ 201 ∷ 200 ∷ 199 ∷ 198 ∷ 197 ∷ 196 ∷ 195 ∷ 194 ∷ 193 ∷ 192 ∷ 191 ∷ 190 ∷ 189 ∷ 188 ∷ 187 ∷ 186 ∷ 185 ∷ [])) (short_tag 88)) ∷ []) (Say.Drained 5)
    ∷ answered (Do.Post 0 0 (filled_line 111)) Say.Ok
    ∷ answered_with (Do.Drain 0) ((Seal 0 (ctr 18446744073709551615 9) (line_of (103 ∷ 102 ∷ 101 ∷ 100 ∷ 99 ∷ 98 ∷ 97 ∷ 96 ∷ 127 ∷ 126 ∷ 125 ∷ 124 ∷ 123 ∷ 122 ∷ 121 ∷ 120 ∷ 119 ∷ 118 ∷ 117 ∷ 116 ∷ 115 ∷ 114 ∷ 113 ∷ 112 ∷ 79 ∷ 78 ∷ 77 ∷ 76 ∷ 75 ∷ 74 ∷ 73 ∷ 72 ∷ 71 ∷ 70 ∷ 69 ∷ 68 ∷ 67 ∷ 66 ∷ 65 ∷ 64 ∷ 95 ∷ 94 ∷ 93 ∷ 92 ∷ 91 ∷ 90 ∷ 89 ∷ 88 ∷ 87 ∷ 86 ∷ 85 ∷ 84 ∷ 83 ∷ 82 ∷ 81 ∷ 80 ∷ 47 ∷ 46 ∷ 45 ∷ 44 ∷ 43 ∷ 42 ∷ 41 ∷ 40 ∷ [])) (short_tag 25)) ∷ []) (Say.Drained 4)
    ∷ answered (Do.Post 0 0 (filled_line 196)) Say.Ok
    ∷ answered_with (Do.Drain 0) ((Seal 0 (ctr 18446744073709551615 10) (line_of (205 ∷ 206 ∷ 207 ∷ range_with_len 200 4 ++ range_with_len 212 4 ++ range_with_len 208 4 ++ range_with_len 220 4 ++ range_with_len 216 4 ++ range_with_len 228 4 ++ range_with_len 224 4 ++ range_with_len 236 4 ++ range_with_len 232 4 ++ range_with_len 244 4 ++ range_with_len 240 4 ++ range_with_len 252 4 ++ range_with_len 248 4 ++ range_with_len 132 4 ++ range_with_len 128 4 ++ 140 ∷ [])) (short_tag 90)) ∷ []) (Say.Drained 4)
    ∷ answered (Do.Post 0 0 (filled_line 58)) Say.Ok
    ∷ answered_with (Do.Drain 0) ((Seal 0 (ctr 18446744073709551615 11) (line_of (48 ∷ 49 ∷ 54 ∷ 55 ∷ 52 ∷ 53 ∷ 42 ∷ 43 ∷ 40 ∷ 41 ∷ 46 ∷ 47 ∷ 44 ∷ 45 ∷ 34 ∷ 35 ∷ 32 ∷ 33 ∷ 38 ∷ 39 ∷ 36 ∷ 37 ∷ 26 ∷ 27 ∷ 24 ∷ 25 ∷ 30 ∷ 31 ∷ 28 ∷ 29 ∷ 18 ∷ 19 ∷ 16 ∷ 17 ∷ 22 ∷ 23 ∷ 20 ∷ 21 ∷ 10 ∷ 11 ∷ 8 ∷ 9 ∷ 14 ∷ 15 ∷ 12 ∷ 13 ∷ 2 ∷ 3 ∷ 0 ∷ 1 ∷ 6 ∷ 7 ∷ 4 ∷ 5 ∷ 122 ∷ 123 ∷ 120 ∷ 121 ∷ 126 ∷ 127 ∷ 124 ∷ 125 ∷ 114 ∷ 115 ∷ [])) (short_tag 27)) ∷ []) (Say.Drained 4)
    ∷ answered (Do.Post 0 0 (filled_line 59)) Say.Ok
    ∷ answered_with (Do.Drain 0) ((Seal 0 (ctr 18446744073709551615 12) (line_of (48 ∷ 55 ∷ 54 ∷ 53 ∷ 52 ∷ 43 ∷ 42 ∷ 41 ∷ 40 ∷ 47 ∷ 46 ∷ 45 ∷ 44 ∷ 35 ∷ 34 ∷ 33 ∷ 32 ∷ 39 ∷ 38 ∷ 37 ∷ 36 ∷ 27 ∷ 26 ∷ 25 ∷ 24 ∷ 31 ∷ 30 ∷ 29 ∷ 28 ∷ 19 ∷ 18 ∷ 17 ∷ 16 ∷ 23 ∷ 22 ∷ 21 ∷ 20 ∷ 11 ∷ 10 ∷ 9 ∷ 8 ∷ 15 ∷ 14 ∷ 13 ∷ 12 ∷ 3 ∷ 2 ∷ 1 ∷ 0 ∷ 7 ∷ 6 ∷ 5 ∷ 4 ∷ 123 ∷ 122 ∷ 121 ∷ 120 ∷ 127 ∷ 126 ∷ 125 ∷ 124 ∷ 115 ∷ 114 ∷ 113 ∷ [])) (short_tag 92)) ∷ []) (Say.Drained 5)
    ∷ answered (Do.Post 0 0 (filled_line 214)) Say.Ok
    ∷ answered_with (Do.Drain 0) ((Seal 0 (ctr 18446744073709551615 13) (line_of (218 ∷ 219 ∷ 216 ∷ 217 ∷ 198 ∷ 199 ∷ 196 ∷ 197 ∷ 194 ∷ 195 ∷ 192 ∷ 193 ∷ 206 ∷ 207 ∷ 204 ∷ 205 ∷ 202 ∷ 203 ∷ 200 ∷ 201 ∷ 246 ∷ 247 ∷ 244 ∷ 245 ∷ 242 ∷ 243 ∷ 240 ∷ 241 ∷ 254 ∷ 255 ∷ 252 ∷ 253 ∷ 250 ∷ 251 ∷ 248 ∷ 249 ∷ 230 ∷ 231 ∷ 228 ∷ 229 ∷ 226 ∷ 227 ∷ 224 ∷ 225 ∷ 238 ∷ 239 ∷ 236 ∷ 237 ∷ 234 ∷ 235 ∷ 232 ∷ 233 ∷ 150 ∷ 151 ∷ 148 ∷ 149 ∷ 146 ∷ 147 ∷ 144 ∷ 145 ∷ 158 ∷ 159 ∷ 156 ∷ 157 ∷ [])) (short_tag 29)) ∷ []) (Say.Drained 4)
    ∷ answered (Do.Post 0 0 (filled_line 176)) Say.Ok
    ∷ answered_with (Do.Drain 0) ((Seal 0 (ctr 18446744073709551615 14) (line_of (189 ∷ 190 ∷ 191 ∷ range_with_len 160 16 ++ range_with_len 144 16 ++ range_with_len 128 16 ++ range_with_len 240 13)) (short_tag 94)) ∷ []) (Say.Drained 4)
    ∷ answered (Do.Post 0 0 (filled_line 177)) Say.Ok
    ∷ answered_with (Do.Drain 0) ((Seal 0 (ctr 18446744073709551615 15) (line_of (191 ∷ 190 ∷ 161 ∷ 160 ∷ 163 ∷ 162 ∷ 165 ∷ 164 ∷ 167 ∷ 166 ∷ 169 ∷ 168 ∷ 171 ∷ 170 ∷ 173 ∷ 172 ∷ 175 ∷ 174 ∷ 145 ∷ 144 ∷ 147 ∷ 146 ∷ 149 ∷ 148 ∷ 151 ∷ 150 ∷ 153 ∷ 152 ∷ 155 ∷ 154 ∷ 157 ∷ 156 ∷ 159 ∷ 158 ∷ 129 ∷ 128 ∷ 131 ∷ 130 ∷ 133 ∷ 132 ∷ 135 ∷ 134 ∷ 137 ∷ 136 ∷ 139 ∷ 138 ∷ 141 ∷ 140 ∷ 143 ∷ 142 ∷ 241 ∷ 240 ∷ 243 ∷ 242 ∷ 245 ∷ 244 ∷ 247 ∷ 246 ∷ 249 ∷ 248 ∷ 251 ∷ 250 ∷ 253 ∷ 252 ∷ [])) (short_tag 31)) ∷ []) (Say.Drained 4)
    ∷ answered (Do.Post 0 0 (filled_line 166)) Say.Ok
    ∷ answered_with (Do.Drain 0) ((Seal 0 (ctr 18446744073709551615 16) (line_of (169 ∷ 182 ∷ 183 ∷ 180 ∷ 181 ∷ 178 ∷ 179 ∷ 176 ∷ 177 ∷ 190 ∷ 191 ∷ 188 ∷ 189 ∷ 186 ∷ 187 ∷ 184 ∷ 185 ∷ 134 ∷ 135 ∷ 132 ∷ 133 ∷ 130 ∷ 131 ∷ 128 ∷ 129 ∷ 142 ∷ 143 ∷ 140 ∷ 141 ∷ 138 ∷ 139 ∷ 136 ∷ 137 ∷ 150 ∷ 151 ∷ 148 ∷ 149 ∷ 146 ∷ 147 ∷ 144 ∷ 145 ∷ 158 ∷ 159 ∷ 156 ∷ 157 ∷ 154 ∷ 155 ∷ 152 ∷ 153 ∷ 230 ∷ 231 ∷ 228 ∷ 229 ∷ 226 ∷ 227 ∷ 224 ∷ 225 ∷ 238 ∷ 239 ∷ 236 ∷ 237 ∷ 234 ∷ 235 ∷ 232 ∷ [])) (short_tag 64)) ∷ []) (Say.Drained 5)
    ∷ answered (Do.Post 0 0 (filled_line 86)) Say.Ok
    ∷ answered_with (Do.Drain 0) ((Seal 0 (ctr 18446744073709551615 17) (line_of (70 ∷ 71 ∷ 68 ∷ 69 ∷ 66 ∷ 67 ∷ 64 ∷ 65 ∷ 78 ∷ 79 ∷ 76 ∷ 77 ∷ 74 ∷ 75 ∷ 72 ∷ 73 ∷ 118 ∷ 119 ∷ 116 ∷ 117 ∷ 114 ∷ 115 ∷ 112 ∷ 113 ∷ 126 ∷ 127 ∷ 124 ∷ 125 ∷ 122 ∷ 123 ∷ 120 ∷ 121 ∷ 102 ∷ 103 ∷ 100 ∷ 101 ∷ 98 ∷ 99 ∷ 96 ∷ 97 ∷ 110 ∷ 111 ∷ 108 ∷ 109 ∷ 106 ∷ 107 ∷ 104 ∷ 105 ∷ 22 ∷ 23 ∷ 20 ∷ 21 ∷ 18 ∷ 19 ∷ 16 ∷ 17 ∷ 30 ∷ 31 ∷ 28 ∷ 29 ∷ 26 ∷ 27 ∷ 24 ∷ 25 ∷ [])) (short_tag 1)) ∷ []) (Say.Drained 4)
    ∷ answered (Do.Post 0 0 (filled_line 192)) Say.Ok
    ∷ answered_with (Do.Drain 0) ((Seal 0 (ctr 18446744073709551615 18) (line_of (range_with_len 209 47 ++ range_with_len 128 17)) (short_tag 66)) ∷ []) (Say.Drained 4)
    ∷ answered (Do.Post 0 0 (filled_line 130)) Say.Ok
    ∷ answered_with (Do.Drain 0) ((Seal 0 (ctr 18446744073709551615 19) (line_of (144 ∷ 145 ∷ 150 ∷ 151 ∷ 148 ∷ 149 ∷ 154 ∷ 155 ∷ 152 ∷ 153 ∷ 158 ∷ 159 ∷ 156 ∷ 157 ∷ 162 ∷ 163 ∷ 160 ∷ 161 ∷ 166 ∷ 167 ∷ 164 ∷ 165 ∷ 170 ∷ 171 ∷ 168 ∷ 169 ∷ 174 ∷ 175 ∷ 172 ∷ 173 ∷ 178 ∷ 179 ∷ 176 ∷ 177 ∷ 182 ∷ 183 ∷ 180 ∷ 181 ∷ 186 ∷ 187 ∷ 184 ∷ 185 ∷ 190 ∷ 191 ∷ 188 ∷ 189 ∷ 194 ∷ 195 ∷ 192 ∷ 193 ∷ 198 ∷ 199 ∷ 196 ∷ 197 ∷ 202 ∷ 203 ∷ 200 ∷ 201 ∷ 206 ∷ 207 ∷ 204 ∷ 205 ∷ 210 ∷ 211 ∷ [])) (short_tag 3)) ∷ []) (Say.Drained 4)
    ∷ answered (Do.Post 0 0 (filled_line 232)) Say.Ok
    ∷ answered_with (Do.Drain 0) ((Seal 0 (ctr 18446744073709551615 20) (line_of (range_with_len 251 5 ++ range_with_len 240 8 ++ range_with_len 200 8 ++ range_with_len 192 8 ++ range_with_len 216 8 ++ range_with_len 208 8 ++ range_with_len 168 8 ++ range_with_len 160 8 ++ 184 ∷ 185 ∷ 186 ∷ [])) (short_tag 68)) ∷ []) (Say.Drained 5)
    ∷ answered (Do.Post 0 0 (filled_line 14)) Say.Ok
    ∷ answered_with (Do.Drain 0) ((Seal 0 (ctr 18446744073709551615 21) (line_of (26 ∷ 27 ∷ 24 ∷ 25 ∷ 22 ∷ 23 ∷ 20 ∷ 21 ∷ 18 ∷ 19 ∷ 16 ∷ 17 ∷ 46 ∷ 47 ∷ 44 ∷ 45 ∷ 42 ∷ 43 ∷ 40 ∷ 41 ∷ 38 ∷ 39 ∷ 36 ∷ 37 ∷ 34 ∷ 35 ∷ 32 ∷ 33 ∷ 62 ∷ 63 ∷ 60 ∷ 61 ∷ 58 ∷ 59 ∷ 56 ∷ 57 ∷ 54 ∷ 55 ∷ 52 ∷ 53 ∷ 50 ∷ 51 ∷ 48 ∷ 49 ∷ 78 ∷ 79 ∷ 76 ∷ 77 ∷ 74 ∷ 75 ∷ 72 ∷ 73 ∷ 70 ∷ 71 ∷ 68 ∷ 69 ∷ 66 ∷ 67 ∷ 64 ∷ 65 ∷ 94 ∷ 95 ∷ 92 ∷ 93 ∷ [])) (short_tag 5)) ∷ []) (Say.Drained 4)
    ∷ answered (Do.Post 0 0 (filled_line 2)) Say.Ok
    ∷ answered_with (Do.Drain 0) ((Seal 0 (ctr 18446744073709551615 22) (line_of (23 ∷ 20 ∷ 21 ∷ 26 ∷ 27 ∷ 24 ∷ 25 ∷ 30 ∷ 31 ∷ 28 ∷ 29 ∷ 34 ∷ 35 ∷ 32 ∷ 33 ∷ 38 ∷ 39 ∷ 36 ∷ 37 ∷ 42 ∷ 43 ∷ 40 ∷ 41 ∷ 46 ∷ 47 ∷ 44 ∷ 45 ∷ 50 ∷ 51 ∷ 48 ∷ 49 ∷ 54 ∷ 55 ∷ 52 ∷ 53 ∷ 58 ∷ 59 ∷ 56 ∷ 57 ∷ 62 ∷ 63 ∷ 60 ∷ 61 ∷ 66 ∷ 67 ∷ 64 ∷ 65 ∷ 70 ∷ 71 ∷ 68 ∷ 69 ∷ 74 ∷ 75 ∷ 72 ∷ 73 ∷ 78 ∷ 79 ∷ 76 ∷ 77 ∷ 82 ∷ 83 ∷ 80 ∷ 81 ∷ 86 ∷ [])) (short_tag 70)) ∷ []) (Say.Drained 4)
    ∷ answered (Do.Post 0 0 (filled_line 107)) Say.Ok
    ∷ answered_with (Do.Drain 0) ((Seal 0 (ctr 18446744073709551615 23) (line_of (125 ∷ 124 ∷ 115 ∷ 114 ∷ 113 ∷ 112 ∷ 119 ∷ 118 ∷ 117 ∷ 116 ∷ 75 ∷ 74 ∷ 73 ∷ 72 ∷ 79 ∷ 78 ∷ 77 ∷ 76 ∷ 67 ∷ 66 ∷ 65 ∷ 64 ∷ 71 ∷ 70 ∷ 69 ∷ 68 ∷ 91 ∷ 90 ∷ 89 ∷ 88 ∷ 95 ∷ 94 ∷ 93 ∷ 92 ∷ 83 ∷ 82 ∷ 81 ∷ 80 ∷ 87 ∷ 86 ∷ 85 ∷ 84 ∷ 43 ∷ 42 ∷ 41 ∷ 40 ∷ 47 ∷ 46 ∷ 45 ∷ 44 ∷ 35 ∷ 34 ∷ 33 ∷ 32 ∷ 39 ∷ 38 ∷ 37 ∷ 36 ∷ 59 ∷ 58 ∷ 57 ∷ 56 ∷ 63 ∷ 62 ∷ [])) (short_tag 7)) ∷ []) (Say.Drained 4)
    ∷ answered (Do.Post 0 0 (filled_line 164)) Say.Ok
    ∷ answered_with (Do.Drain 0) ((Seal 0 (ctr 18446744073709551615 24) (line_of (179 ∷ range_with_len 188 4 ++ range_with_len 184 4 ++ range_with_len 132 4 ++ range_with_len 128 4 ++ range_with_len 140 4 ++ range_with_len 136 4 ++ range_with_len 148 4 ++ range_with_len 144 4 ++ range_with_len 156 4 ++ range_with_len 152 4 ++ range_with_len 228 4 ++ range_with_len 224 4 ++ range_with_len 236 4 ++ range_with_len 232 4 ++ range_with_len 244 4 ++ 240 ∷ 241 ∷ 242 ∷ [])) (short_tag 72)) ∷ []) (Say.Drained 5)
    ∷ answered (Do.Post 0 0 (filled_line 97)) Say.Ok
    ∷ answered_with (Do.Drain 0) ((Seal 0 (ctr 18446744073709551615 25) (line_of (121 ∷ 120 ∷ 123 ∷ 122 ∷ 125 ∷ 124 ∷ 127 ∷ 126 ∷ 65 ∷ 64 ∷ 67 ∷ 66 ∷ 69 ∷ 68 ∷ 71 ∷ 70 ∷ 73 ∷ 72 ∷ 75 ∷ 74 ∷ 77 ∷ 76 ∷ 79 ∷ 78 ∷ 81 ∷ 80 ∷ 83 ∷ 82 ∷ 85 ∷ 84 ∷ 87 ∷ 86 ∷ 89 ∷ 88 ∷ 91 ∷ 90 ∷ 93 ∷ 92 ∷ 95 ∷ 94 ∷ 33 ∷ 32 ∷ 35 ∷ 34 ∷ 37 ∷ 36 ∷ 39 ∷ 38 ∷ 41 ∷ 40 ∷ 43 ∷ 42 ∷ 45 ∷ 44 ∷ 47 ∷ 46 ∷ 49 ∷ 48 ∷ 51 ∷ 50 ∷ 53 ∷ 52 ∷ 55 ∷ 54 ∷ [])) (short_tag 9)) ∷ []) (Say.Drained 4)
    ∷ answered (Do.Post 0 0 (filled_line 79)) Say.Ok
    ∷ answered_with (Do.Drain 0) ((Seal 0 (ctr 18446744073709551615 26) (line_of (86 ∷ 85 ∷ 84 ∷ 83 ∷ 82 ∷ 81 ∷ 80 ∷ 111 ∷ 110 ∷ 109 ∷ 108 ∷ 107 ∷ 106 ∷ 105 ∷ 104 ∷ 103 ∷ 102 ∷ 101 ∷ 100 ∷ 99 ∷ 98 ∷ 97 ∷ 96 ∷ 127 ∷ 126 ∷ 125 ∷ 124 ∷ 123 ∷ 122 ∷ 121 ∷ 120 ∷ 119 ∷ 118 ∷ 117 ∷ 116 ∷ 115 ∷ 114 ∷ 113 ∷ 112 ∷ 15 ∷ 14 ∷ 13 ∷ 12 ∷ 11 ∷ 10 ∷ 9 ∷ 8 ∷ 7 ∷ 6 ∷ 5 ∷ 4 ∷ 3 ∷ 2 ∷ 1 ∷ 0 ∷ 31 ∷ 30 ∷ 29 ∷ 28 ∷ 27 ∷ 26 ∷ 25 ∷ 24 ∷ 23 ∷ [])) (short_tag 74)) ∷ []) (Say.Drained 4)
    ∷ answered (Do.Post 0 0 (filled_line 208)) Say.Ok
    ∷ answered_with (Do.Drain 0) ((Seal 0 (ctr 18446744073709551615 27) (line_of (range_with_len 202 6 ++ range_with_len 240 16 ++ range_with_len 224 16 ++ range_with_len 144 16 ++ range_with_len 128 10)) (short_tag 11)) ∷ []) (Say.Drained 4)
    ∷ answered (Do.Post 0 0 (filled_line 228)) Say.Ok
    ∷ answered_with (Do.Drain 0) ((Seal 0 (ctr 18446744073709551615 28) (line_of (255 ∷ range_with_len 248 4 ++ range_with_len 196 4 ++ range_with_len 192 4 ++ range_with_len 204 4 ++ range_with_len 200 4 ++ range_with_len 212 4 ++ range_with_len 208 4 ++ range_with_len 220 4 ++ range_with_len 216 4 ++ range_with_len 164 4 ++ range_with_len 160 4 ++ range_with_len 172 4 ++ range_with_len 168 4 ++ range_with_len 180 4 ++ range_with_len 176 4 ++ 188 ∷ 189 ∷ 190 ∷ [])) (short_tag 76)) ∷ []) (Say.Drained 5)
    ∷ answered (Do.Post 0 0 (filled_line 9)) Say.Ok
    ∷ answered_with (Do.Drain 0) ((Seal 0 (ctr 18446744073709551615 29) (line_of (21 ∷ 20 ∷ 23 ∷ 22 ∷ 41 ∷ 40 ∷ 43 ∷ 42 ∷ 45 ∷ 44 ∷ 47 ∷ 46 ∷ 33 ∷ 32 ∷ 35 ∷ 34 ∷ 37 ∷ 36 ∷ 39 ∷ 38 ∷ 57 ∷ 56 ∷ 59 ∷ 58 ∷ 61 ∷ 60 ∷ 63 ∷ 62 ∷ 49 ∷ 48 ∷ 51 ∷ 50 ∷ 53 ∷ 52 ∷ 55 ∷ 54 ∷ 73 ∷ 72 ∷ 75 ∷ 74 ∷ 77 ∷ 76 ∷ 79 ∷ 78 ∷ 65 ∷ 64 ∷ 67 ∷ 66 ∷ 69 ∷ 68 ∷ 71 ∷ 70 ∷ 89 ∷ 88 ∷ 91 ∷ 90 ∷ 93 ∷ 92 ∷ 95 ∷ 94 ∷ 81 ∷ 80 ∷ 83 ∷ 82 ∷ [])) (short_tag 13)) ∷ []) (Say.Drained 4)
    ∷ answered (Do.Post 0 0 (filled_line 215)) Say.Ok
    ∷ answered_with (Do.Drain 0) ((Seal 0 (ctr 18446744073709551615 30) (line_of (202 ∷ 201 ∷ 200 ∷ 247 ∷ 246 ∷ 245 ∷ 244 ∷ 243 ∷ 242 ∷ 241 ∷ 240 ∷ 255 ∷ 254 ∷ 253 ∷ 252 ∷ 251 ∷ 250 ∷ 249 ∷ 248 ∷ 231 ∷ 230 ∷ 229 ∷ 228 ∷ 227 ∷ 226 ∷ 225 ∷ 224 ∷ 239 ∷ 238 ∷ 237 ∷ 236 ∷ 235 ∷ 234 ∷ 233 ∷ 232 ∷ 151 ∷ 150 ∷ 149 ∷ 148 ∷ 147 ∷ 146 ∷ 145 ∷ 144 ∷ 159 ∷ 158 ∷ 157 ∷ 156 ∷ 155 ∷ 154 ∷ 153 ∷ 152 ∷ 135 ∷ 134 ∷ 133 ∷ 132 ∷ 131 ∷ 130 ∷ 129 ∷ 128 ∷ 143 ∷ 142 ∷ 141 ∷ 140 ∷ 139 ∷ [])) (short_tag 78)) ∷ []) (Say.Drained 4)
    ∷ answered (Do.Post 0 0 (filled_line 162)) Say.Ok
    ∷ answered_with (Do.Drain 0) ((Seal 0 (ctr 18446744073709551615 31) (line_of (188 ∷ 189 ∷ 130 ∷ 131 ∷ 128 ∷ 129 ∷ 134 ∷ 135 ∷ 132 ∷ 133 ∷ 138 ∷ 139 ∷ 136 ∷ 137 ∷ 142 ∷ 143 ∷ 140 ∷ 141 ∷ 146 ∷ 147 ∷ 144 ∷ 145 ∷ 150 ∷ 151 ∷ 148 ∷ 149 ∷ 154 ∷ 155 ∷ 152 ∷ 153 ∷ 158 ∷ 159 ∷ 156 ∷ 157 ∷ 226 ∷ 227 ∷ 224 ∷ 225 ∷ 230 ∷ 231 ∷ 228 ∷ 229 ∷ 234 ∷ 235 ∷ 232 ∷ 233 ∷ 238 ∷ 239 ∷ 236 ∷ 237 ∷ 242 ∷ 243 ∷ 240 ∷ 241 ∷ 246 ∷ 247 ∷ 244 ∷ 245 ∷ 250 ∷ 251 ∷ 248 ∷ 249 ∷ 254 ∷ 255 ∷ [])) (short_tag 15)) ∷ []) (Say.Drained 4)
    ∷ answered (Do.Post 0 0 (filled_line 144)) Say.Ok
    ∷ answered_with (Do.Drain 0) ((Seal 0 (ctr 18446744073709551615 32) (line_of (143 ∷ range_with_len 176 16 ++ range_with_len 160 16 ++ range_with_len 208 16 ++ range_with_len 192 15)) (short_tag 112)) ∷ []) (Say.Drained 5)
    ∷ answered (Do.Post 0 0 (filled_line 223)) Say.Ok
    ∷ answered_with (Do.Drain 0) ((Seal 0 (ctr 18446744073709551615 33) (line_of (255 ∷ 254 ∷ 253 ∷ 252 ∷ 251 ∷ 250 ∷ 249 ∷ 248 ∷ 247 ∷ 246 ∷ 245 ∷ 244 ∷ 243 ∷ 242 ∷ 241 ∷ 240 ∷ 239 ∷ 238 ∷ 237 ∷ 236 ∷ 235 ∷ 234 ∷ 233 ∷ 232 ∷ 231 ∷ 230 ∷ 229 ∷ 228 ∷ 227 ∷ 226 ∷ 225 ∷ 224 ∷ 159 ∷ 158 ∷ 157 ∷ 156 ∷ 155 ∷ 154 ∷ 153 ∷ 152 ∷ 151 ∷ 150 ∷ 149 ∷ 148 ∷ 147 ∷ 146 ∷ 145 ∷ 144 ∷ 143 ∷ 142 ∷ 141 ∷ 140 ∷ 139 ∷ 138 ∷ 137 ∷ 136 ∷ 135 ∷ 134 ∷ 133 ∷ 132 ∷ 131 ∷ 130 ∷ 129 ∷ 128 ∷ [])) (short_tag 49)) ∷ []) (Say.Drained 4)
    ∷ answered (Do.Post 0 0 (filled_line 77)) Say.Ok
    ∷ answered_with (Do.Drain 0) ((Seal 0 (ctr 18446744073709551615 34) (line_of (108 ∷ 111 ∷ 110 ∷ 105 ∷ 104 ∷ 107 ∷ 106 ∷ 101 ∷ 100 ∷ 103 ∷ 102 ∷ 97 ∷ 96 ∷ 99 ∷ 98 ∷ 125 ∷ 124 ∷ 127 ∷ 126 ∷ 121 ∷ 120 ∷ 123 ∷ 122 ∷ 117 ∷ 116 ∷ 119 ∷ 118 ∷ 113 ∷ 112 ∷ 115 ∷ 114 ∷ 13 ∷ 12 ∷ 15 ∷ 14 ∷ 9 ∷ 8 ∷ 11 ∷ 10 ∷ 5 ∷ 4 ∷ 7 ∷ 6 ∷ 1 ∷ 0 ∷ 3 ∷ 2 ∷ 29 ∷ 28 ∷ 31 ∷ 30 ∷ 25 ∷ 24 ∷ 27 ∷ 26 ∷ 21 ∷ 20 ∷ 23 ∷ 22 ∷ 17 ∷ 16 ∷ 19 ∷ 18 ∷ 45 ∷ [])) (short_tag 114)) ∷ []) (Say.Drained 4)
    ∷ answered (Do.Post 0 0 (filled_line 208)) Say.Ok
    ∷ answered_with (Do.Drain 0) ((Seal 0 (ctr 18446744073709551615 35) (line_of (range_with_len 242 14 ++ range_with_len 224 16 ++ range_with_len 144 16 ++ range_with_len 128 16 ++ 176 ∷ 177 ∷ [])) (short_tag 51)) ∷ []) (Say.Drained 4)
    ∷ answered (Do.Post 0 0 (filled_line 211)) Say.Ok
    ∷ answered_with (Do.Drain 0) ((Seal 0 (ctr 18446744073709551615 36) (line_of (240 ∷ 247 ∷ 246 ∷ 245 ∷ 244 ∷ 251 ∷ 250 ∷ 249 ∷ 248 ∷ 255 ∷ 254 ∷ 253 ∷ 252 ∷ 227 ∷ 226 ∷ 225 ∷ 224 ∷ 231 ∷ 230 ∷ 229 ∷ 228 ∷ 235 ∷ 234 ∷ 233 ∷ 232 ∷ 239 ∷ 238 ∷ 237 ∷ 236 ∷ 147 ∷ 146 ∷ 145 ∷ 144 ∷ 151 ∷ 150 ∷ 149 ∷ 148 ∷ 155 ∷ 154 ∷ 153 ∷ 152 ∷ 159 ∷ 158 ∷ 157 ∷ 156 ∷ 131 ∷ 130 ∷ 129 ∷ 128 ∷ 135 ∷ 134 ∷ 133 ∷ 132 ∷ 139 ∷ 138 ∷ 137 ∷ 136 ∷ 143 ∷ 142 ∷ 141 ∷ 140 ∷ 179 ∷ 178 ∷ 177 ∷ [])) (short_tag 116)) ∷ []) (Say.Drained 5)
    ∷ answered (Do.Post 0 0 (filled_line 39)) Say.Ok
    ∷ answered_with (Do.Drain 0) ((Seal 0 (ctr 18446744073709551615 37) (line_of (3 ∷ 2 ∷ 1 ∷ 0 ∷ 15 ∷ 14 ∷ 13 ∷ 12 ∷ 11 ∷ 10 ∷ 9 ∷ 8 ∷ 23 ∷ 22 ∷ 21 ∷ 20 ∷ 19 ∷ 18 ∷ 17 ∷ 16 ∷ 31 ∷ 30 ∷ 29 ∷ 28 ∷ 27 ∷ 26 ∷ 25 ∷ 24 ∷ 103 ∷ 102 ∷ 101 ∷ 100 ∷ 99 ∷ 98 ∷ 97 ∷ 96 ∷ 111 ∷ 110 ∷ 109 ∷ 108 ∷ 107 ∷ 106 ∷ 105 ∷ 104 ∷ 119 ∷ 118 ∷ 117 ∷ 116 ∷ 115 ∷ 114 ∷ 113 ∷ 112 ∷ 127 ∷ 126 ∷ 125 ∷ 124 ∷ 123 ∷ 122 ∷ 121 ∷ 120 ∷ 71 ∷ 70 ∷ 69 ∷ 68 ∷ [])) (short_tag 53)) ∷ []) (Say.Drained 4)
    ∷ answered (Do.Post 0 0 (filled_line 12)) Say.Ok
    ∷ answered_with (Do.Drain 0) ((Seal 0 (ctr 18446744073709551615 38) (line_of (41 ∷ 42 ∷ 43 ∷ range_with_len 36 4 ++ range_with_len 32 4 ++ range_with_len 60 4 ++ range_with_len 56 4 ++ range_with_len 52 4 ++ range_with_len 48 4 ++ range_with_len 76 4 ++ range_with_len 72 4 ++ range_with_len 68 4 ++ range_with_len 64 4 ++ range_with_len 92 4 ++ range_with_len 88 4 ++ range_with_len 84 4 ++ range_with_len 80 4 ++ range_with_len 108 4 ++ 104 ∷ [])) (short_tag 118)) ∷ []) (Say.Drained 4)
    ∷ answered (Do.Post 0 0 (filled_line 126)) Say.Ok
    ∷ answered_with (Do.Drain 0) ((Seal 0 (ctr 18446744073709551615 39) (line_of (88 ∷ 89 ∷ 86 ∷ 87 ∷ 84 ∷ 85 ∷ 82 ∷ 83 ∷ 80 ∷ 81 ∷ 78 ∷ 79 ∷ 76 ∷ 77 ∷ 74 ∷ 75 ∷ 72 ∷ 73 ∷ 70 ∷ 71 ∷ 68 ∷ 69 ∷ 66 ∷ 67 ∷ 64 ∷ 65 ∷ 62 ∷ 63 ∷ 60 ∷ 61 ∷ 58 ∷ 59 ∷ 56 ∷ 57 ∷ 54 ∷ 55 ∷ 52 ∷ 53 ∷ 50 ∷ 51 ∷ 48 ∷ 49 ∷ 46 ∷ 47 ∷ 44 ∷ 45 ∷ 42 ∷ 43 ∷ 40 ∷ 41 ∷ 38 ∷ 39 ∷ 36 ∷ 37 ∷ 34 ∷ 35 ∷ 32 ∷ 33 ∷ 30 ∷ 31 ∷ 28 ∷ 29 ∷ 26 ∷ 27 ∷ [])) (short_tag 55)) ∷ []) (Say.Drained 4)
    ∷ answered (Do.Post 0 0 (filled_line 17)) Say.Ok
    ∷ answered_with (Do.Drain 0) ((Seal 0 (ctr 18446744073709551615 40) (line_of (54 ∷ 57 ∷ 56 ∷ 59 ∷ 58 ∷ 61 ∷ 60 ∷ 63 ∷ 62 ∷ 33 ∷ 32 ∷ 35 ∷ 34 ∷ 37 ∷ 36 ∷ 39 ∷ 38 ∷ 41 ∷ 40 ∷ 43 ∷ 42 ∷ 45 ∷ 44 ∷ 47 ∷ 46 ∷ 81 ∷ 80 ∷ 83 ∷ 82 ∷ 85 ∷ 84 ∷ 87 ∷ 86 ∷ 89 ∷ 88 ∷ 91 ∷ 90 ∷ 93 ∷ 92 ∷ 95 ∷ 94 ∷ 65 ∷ 64 ∷ 67 ∷ 66 ∷ 69 ∷ 68 ∷ 71 ∷ 70 ∷ 73 ∷ 72 ∷ 75 ∷ 74 ∷ 77 ∷ 76 ∷ 79 ∷ 78 ∷ 113 ∷ 112 ∷ 115 ∷ 114 ∷ 117 ∷ 116 ∷ 119 ∷ [])) (short_tag 120)) ∷ []) (Say.Drained 5)
    ∷ answered (Do.Post 0 0 (filled_line 2)) Say.Ok
    ∷ answered_with (Do.Drain 0) ((Seal 0 (ctr 18446744073709551615 41) (line_of (42 ∷ 43 ∷ 40 ∷ 41 ∷ 46 ∷ 47 ∷ 44 ∷ 45 ∷ 50 ∷ 51 ∷ 48 ∷ 49 ∷ 54 ∷ 55 ∷ 52 ∷ 53 ∷ 58 ∷ 59 ∷ 56 ∷ 57 ∷ 62 ∷ 63 ∷ 60 ∷ 61 ∷ 66 ∷ 67 ∷ 64 ∷ 65 ∷ 70 ∷ 71 ∷ 68 ∷ 69 ∷ 74 ∷ 75 ∷ 72 ∷ 73 ∷ 78 ∷ 79 ∷ 76 ∷ 77 ∷ 82 ∷ 83 ∷ 80 ∷ 81 ∷ 86 ∷ 87 ∷ 84 ∷ 85 ∷ 90 ∷ 91 ∷ 88 ∷ 89 ∷ 94 ∷ 95 ∷ 92 ∷ 93 ∷ 98 ∷ 99 ∷ 96 ∷ 97 ∷ 102 ∷ 103 ∷ 100 ∷ 101 ∷ [])) (short_tag 57)) ∷ []) (Say.Drained 4)
    ∷ answered (Do.Post 0 0 (filled_line 127)) Say.Ok
    ∷ answered_with (Do.Drain 0) ((Seal 0 (ctr 18446744073709551615 42) (line_of (86 ∷ 85 ∷ 84 ∷ 83 ∷ 82 ∷ 81 ∷ 80 ∷ 79 ∷ 78 ∷ 77 ∷ 76 ∷ 75 ∷ 74 ∷ 73 ∷ 72 ∷ 71 ∷ 70 ∷ 69 ∷ 68 ∷ 67 ∷ 66 ∷ 65 ∷ 64 ∷ 63 ∷ 62 ∷ 61 ∷ 60 ∷ 59 ∷ 58 ∷ 57 ∷ 56 ∷ 55 ∷ 54 ∷ 53 ∷ 52 ∷ 51 ∷ 50 ∷ 49 ∷ 48 ∷ 47 ∷ 46 ∷ 45 ∷ 44 ∷ 43 ∷ 42 ∷ 41 ∷ 40 ∷ 39 ∷ 38 ∷ 37 ∷ 36 ∷ 35 ∷ 34 ∷ 33 ∷ 32 ∷ 31 ∷ 30 ∷ 29 ∷ 28 ∷ 27 ∷ 26 ∷ 25 ∷ 24 ∷ 23 ∷ [])) (short_tag 122)) ∷ []) (Say.Drained 4)
    ∷ answered (Do.Post 0 0 (filled_line 227)) Say.Ok
    ∷ answered_with (Do.Drain 0) ((Seal 0 (ctr 18446744073709551615 43) (line_of (201 ∷ 200 ∷ 207 ∷ 206 ∷ 205 ∷ 204 ∷ 211 ∷ 210 ∷ 209 ∷ 208 ∷ 215 ∷ 214 ∷ 213 ∷ 212 ∷ 219 ∷ 218 ∷ 217 ∷ 216 ∷ 223 ∷ 222 ∷ 221 ∷ 220 ∷ 163 ∷ 162 ∷ 161 ∷ 160 ∷ 167 ∷ 166 ∷ 165 ∷ 164 ∷ 171 ∷ 170 ∷ 169 ∷ 168 ∷ 175 ∷ 174 ∷ 173 ∷ 172 ∷ 179 ∷ 178 ∷ 177 ∷ 176 ∷ 183 ∷ 182 ∷ 181 ∷ 180 ∷ 187 ∷ 186 ∷ 185 ∷ 184 ∷ 191 ∷ 190 ∷ 189 ∷ 188 ∷ 131 ∷ 130 ∷ 129 ∷ 128 ∷ 135 ∷ 134 ∷ 133 ∷ 132 ∷ 139 ∷ 138 ∷ [])) (short_tag 59)) ∷ []) (Say.Drained 4)
    ∷ answered (Do.Post 0 0 (filled_line 223)) Say.Ok
    ∷ answered_with (Do.Drain 0) ((Seal 0 (ctr 18446744073709551615 44) (line_of (244 ∷ 243 ∷ 242 ∷ 241 ∷ 240 ∷ 239 ∷ 238 ∷ 237 ∷ 236 ∷ 235 ∷ 234 ∷ 233 ∷ 232 ∷ 231 ∷ 230 ∷ 229 ∷ 228 ∷ 227 ∷ 226 ∷ 225 ∷ 224 ∷ 159 ∷ 158 ∷ 157 ∷ 156 ∷ 155 ∷ 154 ∷ 153 ∷ 152 ∷ 151 ∷ 150 ∷ 149 ∷ 148 ∷ 147 ∷ 146 ∷ 145 ∷ 144 ∷ 143 ∷ 142 ∷ 141 ∷ 140 ∷ 139 ∷ 138 ∷ 137 ∷ 136 ∷ 135 ∷ 134 ∷ 133 ∷ 132 ∷ 131 ∷ 130 ∷ 129 ∷ 128 ∷ 191 ∷ 190 ∷ 189 ∷ 188 ∷ 187 ∷ 186 ∷ 185 ∷ 184 ∷ 183 ∷ 182 ∷ 181 ∷ [])) (short_tag 124)) ∷ []) (Say.Drained 5)
    ∷ answered (Do.Post 0 0 (filled_line 232)) Say.Ok
    ∷ answered_with (Do.Drain 0) ((Seal 0 (ctr 18446744073709551615 45) (line_of (range_with_len 196 4 ++ range_with_len 216 8 ++ range_with_len 208 8 ++ range_with_len 168 8 ++ range_with_len 160 8 ++ range_with_len 184 8 ++ range_with_len 176 8 ++ range_with_len 136 8 ++ range_with_len 128 4)) (short_tag 61)) ∷ []) (Say.Drained 4)
    ∷ answered (Do.Post 0 0 (filled_line 42)) Say.Ok
    ∷ answered_with (Do.Drain 0) ((Seal 0 (ctr 18446744073709551615 46) (line_of (7 ∷ 4 ∷ 5 ∷ 26 ∷ 27 ∷ 24 ∷ 25 ∷ 30 ∷ 31 ∷ 28 ∷ 29 ∷ 18 ∷ 19 ∷ 16 ∷ 17 ∷ 22 ∷ 23 ∷ 20 ∷ 21 ∷ 106 ∷ 107 ∷ 104 ∷ 105 ∷ 110 ∷ 111 ∷ 108 ∷ 109 ∷ 98 ∷ 99 ∷ 96 ∷ 97 ∷ 102 ∷ 103 ∷ 100 ∷ 101 ∷ 122 ∷ 123 ∷ 120 ∷ 121 ∷ 126 ∷ 127 ∷ 124 ∷ 125 ∷ 114 ∷ 115 ∷ 112 ∷ 113 ∷ 118 ∷ 119 ∷ 116 ∷ 117 ∷ 74 ∷ 75 ∷ 72 ∷ 73 ∷ 78 ∷ 79 ∷ 76 ∷ 77 ∷ 66 ∷ 67 ∷ 64 ∷ 65 ∷ 70 ∷ [])) (short_tag 126)) ∷ []) (Say.Drained 4)
    ∷ answered (Do.Post 0 0 (filled_line 77)) Say.Ok
    ∷ answered_with (Do.Drain 0) ((Seal 0 (ctr 18446744073709551615 47) (line_of (99 ∷ 98 ∷ 125 ∷ 124 ∷ 127 ∷ 126 ∷ 121 ∷ 120 ∷ 123 ∷ 122 ∷ 117 ∷ 116 ∷ 119 ∷ 118 ∷ 113 ∷ 112 ∷ 115 ∷ 114 ∷ 13 ∷ 12 ∷ 15 ∷ 14 ∷ 9 ∷ 8 ∷ 11 ∷ 10 ∷ 5 ∷ 4 ∷ 7 ∷ 6 ∷ 1 ∷ 0 ∷ 3 ∷ 2 ∷ 29 ∷ 28 ∷ 31 ∷ 30 ∷ 25 ∷ 24 ∷ 27 ∷ 26 ∷ 21 ∷ 20 ∷ 23 ∷ 22 ∷ 17 ∷ 16 ∷ 19 ∷ 18 ∷ 45 ∷ 44 ∷ 47 ∷ 46 ∷ 41 ∷ 40 ∷ 43 ∷ 42 ∷ 37 ∷ 36 ∷ 39 ∷ 38 ∷ 33 ∷ 32 ∷ [])) (short_tag 63)) ∷ []) (Say.Drained 4)
    ∷ answered (Do.Post 0 0 (filled_line 202)) Say.Ok
    ∷ answered_with (Do.Drain 0) ((Seal 0 (ctr 18446744073709551615 48) (line_of (229 ∷ 250 ∷ 251 ∷ 248 ∷ 249 ∷ 254 ∷ 255 ∷ 252 ∷ 253 ∷ 242 ∷ 243 ∷ 240 ∷ 241 ∷ 246 ∷ 247 ∷ 244 ∷ 245 ∷ 138 ∷ 139 ∷ 136 ∷ 137 ∷ 142 ∷ 143 ∷ 140 ∷ 141 ∷ 130 ∷ 131 ∷ 128 ∷ 129 ∷ 134 ∷ 135 ∷ 132 ∷ 133 ∷ 154 ∷ 155 ∷ 152 ∷ 153 ∷ 158 ∷ 159 ∷ 156 ∷ 157 ∷ 146 ∷ 147 ∷ 144 ∷ 145 ∷ 150 ∷ 151 ∷ 148 ∷ 149 ∷ 170 ∷ 171 ∷ 168 ∷ 169 ∷ 174 ∷ 175 ∷ 172 ∷ 173 ∷ 162 ∷ 163 ∷ 160 ∷ 161 ∷ 166 ∷ 167 ∷ 164 ∷ [])) (short_tag 96)) ∷ []) (Say.Drained 5)
    ∷ answered (Do.Post 0 0 (filled_line 183)) Say.Ok
    ∷ answered_with (Do.Drain 0) ((Seal 0 (ctr 18446744073709551615 49) (line_of (135 ∷ 134 ∷ 133 ∷ 132 ∷ 131 ∷ 130 ∷ 129 ∷ 128 ∷ 143 ∷ 142 ∷ 141 ∷ 140 ∷ 139 ∷ 138 ∷ 137 ∷ 136 ∷ 247 ∷ 246 ∷ 245 ∷ 244 ∷ 243 ∷ 242 ∷ 241 ∷ 240 ∷ 255 ∷ 254 ∷ 253 ∷ 252 ∷ 251 ∷ 250 ∷ 249 ∷ 248 ∷ 231 ∷ 230 ∷ 229 ∷ 228 ∷ 227 ∷ 226 ∷ 225 ∷ 224 ∷ 239 ∷ 238 ∷ 237 ∷ 236 ∷ 235 ∷ 234 ∷ 233 ∷ 232 ∷ 215 ∷ 214 ∷ 213 ∷ 212 ∷ 211 ∷ 210 ∷ 209 ∷ 208 ∷ 223 ∷ 222 ∷ 221 ∷ 220 ∷ 219 ∷ 218 ∷ 217 ∷ 216 ∷ [])) (short_tag 33)) ∷ []) (Say.Drained 4)
    ∷ answered (Do.Post 0 0 (filled_line 59)) Say.Ok
    ∷ answered_with (Do.Drain 0) ((Seal 0 (ctr 18446744073709551615 50) (line_of (10 ∷ 9 ∷ 8 ∷ 15 ∷ 14 ∷ 13 ∷ 12 ∷ 3 ∷ 2 ∷ 1 ∷ 0 ∷ 7 ∷ 6 ∷ 5 ∷ 4 ∷ 123 ∷ 122 ∷ 121 ∷ 120 ∷ 127 ∷ 126 ∷ 125 ∷ 124 ∷ 115 ∷ 114 ∷ 113 ∷ 112 ∷ 119 ∷ 118 ∷ 117 ∷ 116 ∷ 107 ∷ 106 ∷ 105 ∷ 104 ∷ 111 ∷ 110 ∷ 109 ∷ 108 ∷ 99 ∷ 98 ∷ 97 ∷ 96 ∷ 103 ∷ 102 ∷ 101 ∷ 100 ∷ 91 ∷ 90 ∷ 89 ∷ 88 ∷ 95 ∷ 94 ∷ 93 ∷ 92 ∷ 83 ∷ 82 ∷ 81 ∷ 80 ∷ 87 ∷ 86 ∷ 85 ∷ 84 ∷ 75 ∷ [])) (short_tag 98)) ∷ []) (Say.Drained 4)
    ∷ answered (Do.Post 0 0 (filled_line 27)) Say.Ok
    ∷ answered_with (Do.Drain 0) ((Seal 0 (ctr 18446744073709551615 51) (line_of (41 ∷ 40 ∷ 47 ∷ 46 ∷ 45 ∷ 44 ∷ 35 ∷ 34 ∷ 33 ∷ 32 ∷ 39 ∷ 38 ∷ 37 ∷ 36 ∷ 91 ∷ 90 ∷ 89 ∷ 88 ∷ 95 ∷ 94 ∷ 93 ∷ 92 ∷ 83 ∷ 82 ∷ 81 ∷ 80 ∷ 87 ∷ 86 ∷ 85 ∷ 84 ∷ 75 ∷ 74 ∷ 73 ∷ 72 ∷ 79 ∷ 78 ∷ 77 ∷ 76 ∷ 67 ∷ 66 ∷ 65 ∷ 64 ∷ 71 ∷ 70 ∷ 69 ∷ 68 ∷ 123 ∷ 122 ∷ 121 ∷ 120 ∷ 127 ∷ 126 ∷ 125 ∷ 124 ∷ 115 ∷ 114 ∷ 113 ∷ 112 ∷ 119 ∷ 118 ∷ 117 ∷ 116 ∷ 107 ∷ 106 ∷ [])) (short_tag 35)) ∷ []) (Say.Drained 4)
    ∷ answered (Do.Post 0 0 (filled_line 69)) Say.Ok
    ∷ answered_with (Do.Drain 0) ((Seal 0 (ctr 18446744073709551615 52) (line_of (118 ∷ 113 ∷ 112 ∷ 115 ∷ 114 ∷ 125 ∷ 124 ∷ 127 ∷ 126 ∷ 121 ∷ 120 ∷ 123 ∷ 122 ∷ 5 ∷ 4 ∷ 7 ∷ 6 ∷ 1 ∷ 0 ∷ 3 ∷ 2 ∷ 13 ∷ 12 ∷ 15 ∷ 14 ∷ 9 ∷ 8 ∷ 11 ∷ 10 ∷ 21 ∷ 20 ∷ 23 ∷ 22 ∷ 17 ∷ 16 ∷ 19 ∷ 18 ∷ 29 ∷ 28 ∷ 31 ∷ 30 ∷ 25 ∷ 24 ∷ 27 ∷ 26 ∷ 37 ∷ 36 ∷ 39 ∷ 38 ∷ 33 ∷ 32 ∷ 35 ∷ 34 ∷ 45 ∷ 44 ∷ 47 ∷ 46 ∷ 41 ∷ 40 ∷ 43 ∷ 42 ∷ 53 ∷ 52 ∷ 55 ∷ [])) (short_tag 100)) ∷ []) (Say.Drained 5)
    ∷ answered (Do.Post 0 0 (filled_line 89)) Say.Ok
    ∷ answered_with (Do.Drain 0) ((Seal 0 (ctr 18446744073709551615 53) (line_of (109 ∷ 108 ∷ 111 ∷ 110 ∷ 97 ∷ 96 ∷ 99 ∷ 98 ∷ 101 ∷ 100 ∷ 103 ∷ 102 ∷ 25 ∷ 24 ∷ 27 ∷ 26 ∷ 29 ∷ 28 ∷ 31 ∷ 30 ∷ 17 ∷ 16 ∷ 19 ∷ 18 ∷ 21 ∷ 20 ∷ 23 ∷ 22 ∷ 9 ∷ 8 ∷ 11 ∷ 10 ∷ 13 ∷ 12 ∷ 15 ∷ 14 ∷ 1 ∷ 0 ∷ 3 ∷ 2 ∷ 5 ∷ 4 ∷ 7 ∷ 6 ∷ 57 ∷ 56 ∷ 59 ∷ 58 ∷ 61 ∷ 60 ∷ 63 ∷ 62 ∷ 49 ∷ 48 ∷ 51 ∷ 50 ∷ 53 ∷ 52 ∷ 55 ∷ 54 ∷ 41 ∷ 40 ∷ 43 ∷ 42 ∷ [])) (short_tag 37)) ∷ []) (Say.Drained 4)
    ∷ answered (Do.Post 0 0 (filled_line 17)) Say.Ok
    ∷ answered_with (Do.Drain 0) ((Seal 0 (ctr 18446744073709551615 54) (line_of (36 ∷ 39 ∷ 38 ∷ 41 ∷ 40 ∷ 43 ∷ 42 ∷ 45 ∷ 44 ∷ 47 ∷ 46 ∷ 81 ∷ 80 ∷ 83 ∷ 82 ∷ 85 ∷ 84 ∷ 87 ∷ 86 ∷ 89 ∷ 88 ∷ 91 ∷ 90 ∷ 93 ∷ 92 ∷ 95 ∷ 94 ∷ 65 ∷ 64 ∷ 67 ∷ 66 ∷ 69 ∷ 68 ∷ 71 ∷ 70 ∷ 73 ∷ 72 ∷ 75 ∷ 74 ∷ 77 ∷ 76 ∷ 79 ∷ 78 ∷ 113 ∷ 112 ∷ 115 ∷ 114 ∷ 117 ∷ 116 ∷ 119 ∷ 118 ∷ 121 ∷ 120 ∷ 123 ∷ 122 ∷ 125 ∷ 124 ∷ 127 ∷ 126 ∷ 97 ∷ 96 ∷ 99 ∷ 98 ∷ 101 ∷ [])) (short_tag 102)) ∷ []) (Say.Drained 4)
    ∷ answered (Do.Post 0 0 (filled_line 69)) Say.Ok
    ∷ answered_with (Do.Drain 0) ((Seal 0 (ctr 18446744073709551615 55) (line_of (115 ∷ 114 ∷ 125 ∷ 124 ∷ 127 ∷ 126 ∷ 121 ∷ 120 ∷ 123 ∷ 122 ∷ 5 ∷ 4 ∷ 7 ∷ 6 ∷ 1 ∷ 0 ∷ 3 ∷ 2 ∷ 13 ∷ 12 ∷ 15 ∷ 14 ∷ 9 ∷ 8 ∷ 11 ∷ 10 ∷ 21 ∷ 20 ∷ 23 ∷ 22 ∷ 17 ∷ 16 ∷ 19 ∷ 18 ∷ 29 ∷ 28 ∷ 31 ∷ 30 ∷ 25 ∷ 24 ∷ 27 ∷ 26 ∷ 37 ∷ 36 ∷ 39 ∷ 38 ∷ 33 ∷ 32 ∷ 35 ∷ 34 ∷ 45 ∷ 44 ∷ 47 ∷ 46 ∷ 41 ∷ 40 ∷ 43 ∷ 42 ∷ 53 ∷ 52 ∷ 55 ∷ 54 ∷ 49 ∷ 48 ∷ [])) (short_tag 39)) ∷ []) (Say.Drained 4)
    ∷ answered (Do.Post 0 0 (filled_line 0)) Say.Ok
    ∷ answered_with (Do.Drain 0) ((Seal 0 (ctr 18446744073709551615 56) (line_of (range_with_len 55 64)) (short_tag 104)) ∷ []) (Say.Drained 5)
    ∷ answered (Do.Post 0 0 (filled_line 102)) Say.Ok
    ∷ answered_with (Do.Drain 0) ((Seal 0 (ctr 18446744073709551615 57) (line_of (94 ∷ 95 ∷ 92 ∷ 93 ∷ 90 ∷ 91 ∷ 88 ∷ 89 ∷ 38 ∷ 39 ∷ 36 ∷ 37 ∷ 34 ∷ 35 ∷ 32 ∷ 33 ∷ 46 ∷ 47 ∷ 44 ∷ 45 ∷ 42 ∷ 43 ∷ 40 ∷ 41 ∷ 54 ∷ 55 ∷ 52 ∷ 53 ∷ 50 ∷ 51 ∷ 48 ∷ 49 ∷ 62 ∷ 63 ∷ 60 ∷ 61 ∷ 58 ∷ 59 ∷ 56 ∷ 57 ∷ 6 ∷ 7 ∷ 4 ∷ 5 ∷ 2 ∷ 3 ∷ 0 ∷ 1 ∷ 14 ∷ 15 ∷ 12 ∷ 13 ∷ 10 ∷ 11 ∷ 8 ∷ 9 ∷ 22 ∷ 23 ∷ 20 ∷ 21 ∷ 18 ∷ 19 ∷ 16 ∷ 17 ∷ [])) (short_tag 41)) ∷ []) (Say.Drained 4)
    ∷ answered (Do.Post 0 0 (filled_line 100)) Say.Ok
    ∷ answered_with (Do.Drain 0) ((Seal 0 (ctr 18446744073709551615 58) (line_of (93 ∷ 94 ∷ 95 ∷ range_with_len 88 4 ++ range_with_len 36 4 ++ range_with_len 32 4 ++ range_with_len 44 4 ++ range_with_len 40 4 ++ range_with_len 52 4 ++ range_with_len 48 4 ++ range_with_len 60 4 ++ range_with_len 56 4 ++ range_with_len 4 4 ++ range_with_len 0 4 ++ range_with_len 12 4 ++ range_with_len 8 4 ++ range_with_len 20 4 ++ range_with_len 16 4 ++ 28 ∷ [])) (short_tag 106)) ∷ []) (Say.Drained 4)
    ∷ answered (Do.Post 0 0 (filled_line 108)) Say.Ok
    ∷ answered_with (Do.Drain 0) ((Seal 0 (ctr 18446744073709551615 59) (line_of (86 ∷ 87 ∷ range_with_len 80 4 ++ range_with_len 44 4 ++ range_with_len 40 4 ++ range_with_len 36 4 ++ range_with_len 32 4 ++ range_with_len 60 4 ++ range_with_len 56 4 ++ range_with_len 52 4 ++ range_with_len 48 4 ++ range_with_len 12 4 ++ range_with_len 8 4 ++ range_with_len 4 4 ++ range_with_len 0 4 ++ range_with_len 28 4 ++ range_with_len 24 4 ++ 20 ∷ 21 ∷ [])) (short_tag 43)) ∷ []) (Say.Drained 4)
    ∷ answered (Do.Post 0 0 (filled_line 253)) Say.Ok
    ∷ answered_with (Do.Drain 0) ((Seal 0 (ctr 18446744073709551615 60) (line_of (198 ∷ 193 ∷ 192 ∷ 195 ∷ 194 ∷ 189 ∷ 188 ∷ 191 ∷ 190 ∷ 185 ∷ 184 ∷ 187 ∷ 186 ∷ 181 ∷ 180 ∷ 183 ∷ 182 ∷ 177 ∷ 176 ∷ 179 ∷ 178 ∷ 173 ∷ 172 ∷ 175 ∷ 174 ∷ 169 ∷ 168 ∷ 171 ∷ 170 ∷ 165 ∷ 164 ∷ 167 ∷ 166 ∷ 161 ∷ 160 ∷ 163 ∷ 162 ∷ 157 ∷ 156 ∷ 159 ∷ 158 ∷ 153 ∷ 152 ∷ 155 ∷ 154 ∷ 149 ∷ 148 ∷ 151 ∷ 150 ∷ 145 ∷ 144 ∷ 147 ∷ 146 ∷ 141 ∷ 140 ∷ 143 ∷ 142 ∷ 137 ∷ 136 ∷ 139 ∷ 138 ∷ 133 ∷ 132 ∷ 135 ∷ [])) (short_tag 108)) ∷ []) (Say.Drained 5)
    ∷ answered (Do.Post 0 0 (filled_line 123)) Say.Ok
    ∷ answered_with (Do.Drain 0) ((Seal 0 (ctr 18446744073709551615 61) (line_of (71 ∷ 70 ∷ 69 ∷ 68 ∷ 59 ∷ 58 ∷ 57 ∷ 56 ∷ 63 ∷ 62 ∷ 61 ∷ 60 ∷ 51 ∷ 50 ∷ 49 ∷ 48 ∷ 55 ∷ 54 ∷ 53 ∷ 52 ∷ 43 ∷ 42 ∷ 41 ∷ 40 ∷ 47 ∷ 46 ∷ 45 ∷ 44 ∷ 35 ∷ 34 ∷ 33 ∷ 32 ∷ 39 ∷ 38 ∷ 37 ∷ 36 ∷ 27 ∷ 26 ∷ 25 ∷ 24 ∷ 31 ∷ 30 ∷ 29 ∷ 28 ∷ 19 ∷ 18 ∷ 17 ∷ 16 ∷ 23 ∷ 22 ∷ 21 ∷ 20 ∷ 11 ∷ 10 ∷ 9 ∷ 8 ∷ 15 ∷ 14 ∷ 13 ∷ 12 ∷ 3 ∷ 2 ∷ 1 ∷ 0 ∷ [])) (short_tag 45)) ∷ []) (Say.Drained 4)
    ∷ answered (Do.Post 0 0 (filled_line 33)) Say.Ok
    ∷ answered_with (Do.Drain 0) ((Seal 0 (ctr 18446744073709551615 62) (line_of (28 ∷ 31 ∷ 30 ∷ 97 ∷ 96 ∷ 99 ∷ 98 ∷ 101 ∷ 100 ∷ 103 ∷ 102 ∷ 105 ∷ 104 ∷ 107 ∷ 106 ∷ 109 ∷ 108 ∷ 111 ∷ 110 ∷ 113 ∷ 112 ∷ 115 ∷ 114 ∷ 117 ∷ 116 ∷ 119 ∷ 118 ∷ 121 ∷ 120 ∷ 123 ∷ 122 ∷ 125 ∷ 124 ∷ 127 ∷ 126 ∷ 65 ∷ 64 ∷ 67 ∷ 66 ∷ 69 ∷ 68 ∷ 71 ∷ 70 ∷ 73 ∷ 72 ∷ 75 ∷ 74 ∷ 77 ∷ 76 ∷ 79 ∷ 78 ∷ 81 ∷ 80 ∷ 83 ∷ 82 ∷ 85 ∷ 84 ∷ 87 ∷ 86 ∷ 89 ∷ 88 ∷ 91 ∷ 90 ∷ 93 ∷ [])) (short_tag 110)) ∷ []) (Say.Drained 4)
    ∷ answered (Do.Post 0 0 (filled_line 98)) Say.Ok
    ∷ answered_with (Do.Drain 0) ((Seal 0 (ctr 18446744073709551615 63) (line_of (92 ∷ 93 ∷ 34 ∷ 35 ∷ 32 ∷ 33 ∷ 38 ∷ 39 ∷ 36 ∷ 37 ∷ 42 ∷ 43 ∷ 40 ∷ 41 ∷ 46 ∷ 47 ∷ 44 ∷ 45 ∷ 50 ∷ 51 ∷ 48 ∷ 49 ∷ 54 ∷ 55 ∷ 52 ∷ 53 ∷ 58 ∷ 59 ∷ 56 ∷ 57 ∷ 62 ∷ 63 ∷ 60 ∷ 61 ∷ 2 ∷ 3 ∷ 0 ∷ 1 ∷ 6 ∷ 7 ∷ 4 ∷ 5 ∷ 10 ∷ 11 ∷ 8 ∷ 9 ∷ 14 ∷ 15 ∷ 12 ∷ 13 ∷ 18 ∷ 19 ∷ 16 ∷ 17 ∷ 22 ∷ 23 ∷ 20 ∷ 21 ∷ 26 ∷ 27 ∷ 24 ∷ 25 ∷ 30 ∷ 31 ∷ [])) (short_tag 47)) ∷ []) (Say.Drained 4)
    ∷ answered (Do.Post 0 0 (filled_line 25)) Say.Ok
    ∷ answered_with (Do.Drain 0) ((Seal 0 (ctr 18446744073709551615 64) (line_of (38 ∷ 89 ∷ 88 ∷ 91 ∷ 90 ∷ 93 ∷ 92 ∷ 95 ∷ 94 ∷ 81 ∷ 80 ∷ 83 ∷ 82 ∷ 85 ∷ 84 ∷ 87 ∷ 86 ∷ 73 ∷ 72 ∷ 75 ∷ 74 ∷ 77 ∷ 76 ∷ 79 ∷ 78 ∷ 65 ∷ 64 ∷ 67 ∷ 66 ∷ 69 ∷ 68 ∷ 71 ∷ 70 ∷ 121 ∷ 120 ∷ 123 ∷ 122 ∷ 125 ∷ 124 ∷ 127 ∷ 126 ∷ 113 ∷ 112 ∷ 115 ∷ 114 ∷ 117 ∷ 116 ∷ 119 ∷ 118 ∷ 105 ∷ 104 ∷ 107 ∷ 106 ∷ 109 ∷ 108 ∷ 111 ∷ 110 ∷ 97 ∷ 96 ∷ 99 ∷ 98 ∷ 101 ∷ 100 ∷ 103 ∷ [])) (short_tag 16)) ∷ []) (Say.Drained 5)
    ∷ answered (Do.Post 0 0 (filled_line 147)) Say.Ok
    ∷ answered_with (Do.Drain 0) ((Seal 0 (ctr 18446744073709551615 65) (line_of (211 ∷ 210 ∷ 209 ∷ 208 ∷ 215 ∷ 214 ∷ 213 ∷ 212 ∷ 219 ∷ 218 ∷ 217 ∷ 216 ∷ 223 ∷ 222 ∷ 221 ∷ 220 ∷ 195 ∷ 194 ∷ 193 ∷ 192 ∷ 199 ∷ 198 ∷ 197 ∷ 196 ∷ 203 ∷ 202 ∷ 201 ∷ 200 ∷ 207 ∷ 206 ∷ 205 ∷ 204 ∷ 243 ∷ 242 ∷ 241 ∷ 240 ∷ 247 ∷ 246 ∷ 245 ∷ 244 ∷ 251 ∷ 250 ∷ 249 ∷ 248 ∷ 255 ∷ 254 ∷ 253 ∷ 252 ∷ 227 ∷ 226 ∷ 225 ∷ 224 ∷ 231 ∷ 230 ∷ 229 ∷ 228 ∷ 235 ∷ 234 ∷ 233 ∷ 232 ∷ 239 ∷ 238 ∷ 237 ∷ 236 ∷ [])) (short_tag 81)) ∷ []) (Say.Drained 4)
    ∷ answered (Do.Post 0 0 (filled_line 183)) Say.Ok
    ∷ answered_with (Do.Drain 0) ((Seal 0 (ctr 18446744073709551615 66) (line_of (246 ∷ 245 ∷ 244 ∷ 243 ∷ 242 ∷ 241 ∷ 240 ∷ 255 ∷ 254 ∷ 253 ∷ 252 ∷ 251 ∷ 250 ∷ 249 ∷ 248 ∷ 231 ∷ 230 ∷ 229 ∷ 228 ∷ 227 ∷ 226 ∷ 225 ∷ 224 ∷ 239 ∷ 238 ∷ 237 ∷ 236 ∷ 235 ∷ 234 ∷ 233 ∷ 232 ∷ 215 ∷ 214 ∷ 213 ∷ 212 ∷ 211 ∷ 210 ∷ 209 ∷ 208 ∷ 223 ∷ 222 ∷ 221 ∷ 220 ∷ 219 ∷ 218 ∷ 217 ∷ 216 ∷ 199 ∷ 198 ∷ 197 ∷ 196 ∷ 195 ∷ 194 ∷ 193 ∷ 192 ∷ 207 ∷ 206 ∷ 205 ∷ 204 ∷ 203 ∷ 202 ∷ 201 ∷ 200 ∷ 55 ∷ [])) (short_tag 146)) ∷ []) (Say.Drained 4)
    ∷ answered (Do.Post 0 0 (filled_line 78)) Say.Ok
    ∷ answered_with (Do.Drain 0) ((Seal 0 (ctr 18446744073709551615 67) (line_of (12 ∷ 13 ∷ 10 ∷ 11 ∷ 8 ∷ 9 ∷ 6 ∷ 7 ∷ 4 ∷ 5 ∷ 2 ∷ 3 ∷ 0 ∷ 1 ∷ 30 ∷ 31 ∷ 28 ∷ 29 ∷ 26 ∷ 27 ∷ 24 ∷ 25 ∷ 22 ∷ 23 ∷ 20 ∷ 21 ∷ 18 ∷ 19 ∷ 16 ∷ 17 ∷ 46 ∷ 47 ∷ 44 ∷ 45 ∷ 42 ∷ 43 ∷ 40 ∷ 41 ∷ 38 ∷ 39 ∷ 36 ∷ 37 ∷ 34 ∷ 35 ∷ 32 ∷ 33 ∷ 62 ∷ 63 ∷ 60 ∷ 61 ∷ 58 ∷ 59 ∷ 56 ∷ 57 ∷ 54 ∷ 55 ∷ 52 ∷ 53 ∷ 50 ∷ 51 ∷ 48 ∷ 49 ∷ 206 ∷ 207 ∷ [])) (short_tag 83)) ∷ []) (Say.Drained 4)
    ∷ answered (Do.Post 0 0 (filled_line 69)) Say.Ok
    ∷ answered_with (Do.Drain 0) ((Seal 0 (ctr 18446744073709551615 68) (line_of (6 ∷ 1 ∷ 0 ∷ 3 ∷ 2 ∷ 13 ∷ 12 ∷ 15 ∷ 14 ∷ 9 ∷ 8 ∷ 11 ∷ 10 ∷ 21 ∷ 20 ∷ 23 ∷ 22 ∷ 17 ∷ 16 ∷ 19 ∷ 18 ∷ 29 ∷ 28 ∷ 31 ∷ 30 ∷ 25 ∷ 24 ∷ 27 ∷ 26 ∷ 37 ∷ 36 ∷ 39 ∷ 38 ∷ 33 ∷ 32 ∷ 35 ∷ 34 ∷ 45 ∷ 44 ∷ 47 ∷ 46 ∷ 41 ∷ 40 ∷ 43 ∷ 42 ∷ 53 ∷ 52 ∷ 55 ∷ 54 ∷ 49 ∷ 48 ∷ 51 ∷ 50 ∷ 61 ∷ 60 ∷ 63 ∷ 62 ∷ 57 ∷ 56 ∷ 59 ∷ 58 ∷ 197 ∷ 196 ∷ 199 ∷ [])) (short_tag 148)) ∷ []) (Say.Drained 5)
    ∷ answered (Do.Post 0 0 (filled_line 192)) Say.Ok
    ∷ answered_with (Do.Drain 0) ((Seal 0 (ctr 18446744073709551615 69) (line_of (range_with_len 132 60 ++ range_with_len 64 4)) (short_tag 85)) ∷ []) (Say.Drained 4)
    ∷ answered (Do.Post 0 0 (filled_line 20)) Say.Ok
    ∷ answered_with (Do.Drain 0) ((Seal 0 (ctr 18446744073709551615 70) (line_of (81 ∷ 82 ∷ 83 ∷ range_with_len 92 4 ++ range_with_len 88 4 ++ range_with_len 68 4 ++ range_with_len 64 4 ++ range_with_len 76 4 ++ range_with_len 72 4 ++ range_with_len 116 4 ++ range_with_len 112 4 ++ range_with_len 124 4 ++ range_with_len 120 4 ++ range_with_len 100 4 ++ range_with_len 96 4 ++ range_with_len 108 4 ++ range_with_len 104 4 ++ range_with_len 148 4 ++ 144 ∷ [])) (short_tag 150)) ∷ []) (Say.Drained 4)
    ∷ answered (Do.Post 0 0 (filled_line 126)) Say.Ok
    ∷ answered_with (Do.Drain 0) ((Seal 0 (ctr 18446744073709551615 71) (line_of (56 ∷ 57 ∷ 54 ∷ 55 ∷ 52 ∷ 53 ∷ 50 ∷ 51 ∷ 48 ∷ 49 ∷ 46 ∷ 47 ∷ 44 ∷ 45 ∷ 42 ∷ 43 ∷ 40 ∷ 41 ∷ 38 ∷ 39 ∷ 36 ∷ 37 ∷ 34 ∷ 35 ∷ 32 ∷ 33 ∷ 30 ∷ 31 ∷ 28 ∷ 29 ∷ 26 ∷ 27 ∷ 24 ∷ 25 ∷ 22 ∷ 23 ∷ 20 ∷ 21 ∷ 18 ∷ 19 ∷ 16 ∷ 17 ∷ 14 ∷ 15 ∷ 12 ∷ 13 ∷ 10 ∷ 11 ∷ 8 ∷ 9 ∷ 6 ∷ 7 ∷ 4 ∷ 5 ∷ 2 ∷ 3 ∷ 0 ∷ 1 ∷ 254 ∷ 255 ∷ 252 ∷ 253 ∷ 250 ∷ 251 ∷ [])) (short_tag 87)) ∷ []) (Say.Drained 4)
    ∷ answered (Do.Post 0 0 (filled_line 145)) Say.Ok
    ∷ answered_with (Do.Drain 0) ((Seal 0 (ctr 18446744073709551615 72) (line_of (214 ∷ 217 ∷ 216 ∷ 219 ∷ 218 ∷ 221 ∷ 220 ∷ 223 ∷ 222 ∷ 193 ∷ 192 ∷ 195 ∷ 194 ∷ 197 ∷ 196 ∷ 199 ∷ 198 ∷ 201 ∷ 200 ∷ 203 ∷ 202 ∷ 205 ∷ 204 ∷ 207 ∷ 206 ∷ 241 ∷ 240 ∷ 243 ∷ 242 ∷ 245 ∷ 244 ∷ 247 ∷ 246 ∷ 249 ∷ 248 ∷ 251 ∷ 250 ∷ 253 ∷ 252 ∷ 255 ∷ 254 ∷ 225 ∷ 224 ∷ 227 ∷ 226 ∷ 229 ∷ 228 ∷ 231 ∷ 230 ∷ 233 ∷ 232 ∷ 235 ∷ 234 ∷ 237 ∷ 236 ∷ 239 ∷ 238 ∷ 17 ∷ 16 ∷ 19 ∷ 18 ∷ 21 ∷ 20 ∷ 23 ∷ [])) (short_tag 152)) ∷ []) (Say.Drained 5)
    ∷ answered (Do.Post 0 0 (filled_line 22)) Say.Ok
    ∷ answered_with (Do.Drain 0) ((Seal 0 (ctr 18446744073709551615 73) (line_of (94 ∷ 95 ∷ 92 ∷ 93 ∷ 90 ∷ 91 ∷ 88 ∷ 89 ∷ 70 ∷ 71 ∷ 68 ∷ 69 ∷ 66 ∷ 67 ∷ 64 ∷ 65 ∷ 78 ∷ 79 ∷ 76 ∷ 77 ∷ 74 ∷ 75 ∷ 72 ∷ 73 ∷ 118 ∷ 119 ∷ 116 ∷ 117 ∷ 114 ∷ 115 ∷ 112 ∷ 113 ∷ 126 ∷ 127 ∷ 124 ∷ 125 ∷ 122 ∷ 123 ∷ 120 ∷ 121 ∷ 102 ∷ 103 ∷ 100 ∷ 101 ∷ 98 ∷ 99 ∷ 96 ∷ 97 ∷ 110 ∷ 111 ∷ 108 ∷ 109 ∷ 106 ∷ 107 ∷ 104 ∷ 105 ∷ 150 ∷ 151 ∷ 148 ∷ 149 ∷ 146 ∷ 147 ∷ 144 ∷ 145 ∷ [])) (short_tag 89)) ∷ []) (Say.Drained 4)
    ∷ answered (Do.Post 0 0 (filled_line 202)) Say.Ok
    ∷ answered_with (Do.Drain 0) ((Seal 0 (ctr 18446744073709551615 74) (line_of (131 ∷ 128 ∷ 129 ∷ 134 ∷ 135 ∷ 132 ∷ 133 ∷ 154 ∷ 155 ∷ 152 ∷ 153 ∷ 158 ∷ 159 ∷ 156 ∷ 157 ∷ 146 ∷ 147 ∷ 144 ∷ 145 ∷ 150 ∷ 151 ∷ 148 ∷ 149 ∷ 170 ∷ 171 ∷ 168 ∷ 169 ∷ 174 ∷ 175 ∷ 172 ∷ 173 ∷ 162 ∷ 163 ∷ 160 ∷ 161 ∷ 166 ∷ 167 ∷ 164 ∷ 165 ∷ 186 ∷ 187 ∷ 184 ∷ 185 ∷ 190 ∷ 191 ∷ 188 ∷ 189 ∷ 178 ∷ 179 ∷ 176 ∷ 177 ∷ 182 ∷ 183 ∷ 180 ∷ 181 ∷ 74 ∷ 75 ∷ 72 ∷ 73 ∷ 78 ∷ 79 ∷ 76 ∷ 77 ∷ 66 ∷ [])) (short_tag 154)) ∷ []) (Say.Drained 4)
    ∷ answered (Do.Post 0 0 (filled_line 153)) Say.Ok
    ∷ answered_with (Do.Drain 0) ((Seal 0 (ctr 18446744073709551615 75) (line_of (211 ∷ 210 ∷ 213 ∷ 212 ∷ 215 ∷ 214 ∷ 201 ∷ 200 ∷ 203 ∷ 202 ∷ 205 ∷ 204 ∷ 207 ∷ 206 ∷ 193 ∷ 192 ∷ 195 ∷ 194 ∷ 197 ∷ 196 ∷ 199 ∷ 198 ∷ 249 ∷ 248 ∷ 251 ∷ 250 ∷ 253 ∷ 252 ∷ 255 ∷ 254 ∷ 241 ∷ 240 ∷ 243 ∷ 242 ∷ 245 ∷ 244 ∷ 247 ∷ 246 ∷ 233 ∷ 232 ∷ 235 ∷ 234 ∷ 237 ∷ 236 ∷ 239 ∷ 238 ∷ 225 ∷ 224 ∷ 227 ∷ 226 ∷ 229 ∷ 228 ∷ 231 ∷ 230 ∷ 25 ∷ 24 ∷ 27 ∷ 26 ∷ 29 ∷ 28 ∷ 31 ∷ 30 ∷ 17 ∷ 16 ∷ [])) (short_tag 91)) ∷ []) (Say.Drained 4)
    ∷ answered (Do.Post 0 0 (filled_line 31)) Say.Ok
    ∷ answered_with (Do.Drain 0) ((Seal 0 (ctr 18446744073709551615 76) (line_of (84 ∷ 83 ∷ 82 ∷ 81 ∷ 80 ∷ 79 ∷ 78 ∷ 77 ∷ 76 ∷ 75 ∷ 74 ∷ 73 ∷ 72 ∷ 71 ∷ 70 ∷ 69 ∷ 68 ∷ 67 ∷ 66 ∷ 65 ∷ 64 ∷ 127 ∷ 126 ∷ 125 ∷ 124 ∷ 123 ∷ 122 ∷ 121 ∷ 120 ∷ 119 ∷ 118 ∷ 117 ∷ 116 ∷ 115 ∷ 114 ∷ 113 ∷ 112 ∷ 111 ∷ 110 ∷ 109 ∷ 108 ∷ 107 ∷ 106 ∷ 105 ∷ 104 ∷ 103 ∷ 102 ∷ 101 ∷ 100 ∷ 99 ∷ 98 ∷ 97 ∷ 96 ∷ 159 ∷ 158 ∷ 157 ∷ 156 ∷ 155 ∷ 154 ∷ 153 ∷ 152 ∷ 151 ∷ 150 ∷ 149 ∷ [])) (short_tag 156)) ∷ []) (Say.Drained 5)
    ∷ answered (Do.Post 0 0 (filled_line 201)) Say.Ok
    ∷ answered_with (Do.Drain 0) ((Seal 0 (ctr 18446744073709551615 77) (line_of (133 ∷ 132 ∷ 135 ∷ 134 ∷ 153 ∷ 152 ∷ 155 ∷ 154 ∷ 157 ∷ 156 ∷ 159 ∷ 158 ∷ 145 ∷ 144 ∷ 147 ∷ 146 ∷ 149 ∷ 148 ∷ 151 ∷ 150 ∷ 169 ∷ 168 ∷ 171 ∷ 170 ∷ 173 ∷ 172 ∷ 175 ∷ 174 ∷ 161 ∷ 160 ∷ 163 ∷ 162 ∷ 165 ∷ 164 ∷ 167 ∷ 166 ∷ 185 ∷ 184 ∷ 187 ∷ 186 ∷ 189 ∷ 188 ∷ 191 ∷ 190 ∷ 177 ∷ 176 ∷ 179 ∷ 178 ∷ 181 ∷ 180 ∷ 183 ∷ 182 ∷ 73 ∷ 72 ∷ 75 ∷ 74 ∷ 77 ∷ 76 ∷ 79 ∷ 78 ∷ 65 ∷ 64 ∷ 67 ∷ 66 ∷ [])) (short_tag 93)) ∷ []) (Say.Drained 4)
    ∷ answered (Do.Post 0 0 (filled_line 21)) Say.Ok
    ∷ answered_with (Do.Drain 0) ((Seal 0 (ctr 18446744073709551615 78) (line_of (88 ∷ 91 ∷ 90 ∷ 69 ∷ 68 ∷ 71 ∷ 70 ∷ 65 ∷ 64 ∷ 67 ∷ 66 ∷ 77 ∷ 76 ∷ 79 ∷ 78 ∷ 73 ∷ 72 ∷ 75 ∷ 74 ∷ 117 ∷ 116 ∷ 119 ∷ 118 ∷ 113 ∷ 112 ∷ 115 ∷ 114 ∷ 125 ∷ 124 ∷ 127 ∷ 126 ∷ 121 ∷ 120 ∷ 123 ∷ 122 ∷ 101 ∷ 100 ∷ 103 ∷ 102 ∷ 97 ∷ 96 ∷ 99 ∷ 98 ∷ 109 ∷ 108 ∷ 111 ∷ 110 ∷ 105 ∷ 104 ∷ 107 ∷ 106 ∷ 149 ∷ 148 ∷ 151 ∷ 150 ∷ 145 ∷ 144 ∷ 147 ∷ 146 ∷ 157 ∷ 156 ∷ 159 ∷ 158 ∷ 153 ∷ [])) (short_tag 158)) ∷ []) (Say.Drained 4)
    ∷ answered (Do.Post 0 0 (filled_line 130)) Say.Ok
    ∷ answered_with (Do.Drain 0) ((Seal 0 (ctr 18446744073709551615 79) (line_of (204 ∷ 205 ∷ 210 ∷ 211 ∷ 208 ∷ 209 ∷ 214 ∷ 215 ∷ 212 ∷ 213 ∷ 218 ∷ 219 ∷ 216 ∷ 217 ∷ 222 ∷ 223 ∷ 220 ∷ 221 ∷ 226 ∷ 227 ∷ 224 ∷ 225 ∷ 230 ∷ 231 ∷ 228 ∷ 229 ∷ 234 ∷ 235 ∷ 232 ∷ 233 ∷ 238 ∷ 239 ∷ 236 ∷ 237 ∷ 242 ∷ 243 ∷ 240 ∷ 241 ∷ 246 ∷ 247 ∷ 244 ∷ 245 ∷ 250 ∷ 251 ∷ 248 ∷ 249 ∷ 254 ∷ 255 ∷ 252 ∷ 253 ∷ 2 ∷ 3 ∷ 0 ∷ 1 ∷ 6 ∷ 7 ∷ 4 ∷ 5 ∷ 10 ∷ 11 ∷ 8 ∷ 9 ∷ 14 ∷ 15 ∷ [])) (short_tag 95)) ∷ []) (Say.Drained 4)
    ∷ answered (Do.Post 0 0 (filled_line 120)) Say.Ok
    ∷ answered_with (Do.Drain 0) ((Seal 0 (ctr 18446744073709551615 80) (line_of (55 ∷ range_with_len 40 8 ++ range_with_len 32 8 ++ range_with_len 24 8 ++ range_with_len 16 8 ++ range_with_len 8 8 ++ range_with_len 0 8 ++ range_with_len 248 8 ++ range_with_len 240 7)) (short_tag 128)) ∷ []) (Say.Drained 5)
    ∷ answered (Do.Post 0 0 (filled_line 200)) Say.Ok
    ∷ answered_with (Do.Drain 0) ((Seal 0 (ctr 18446744073709551615 81) (line_of (range_with_len 152 8 ++ range_with_len 144 8 ++ range_with_len 168 8 ++ range_with_len 160 8 ++ range_with_len 184 8 ++ range_with_len 176 8 ++ range_with_len 72 8 ++ range_with_len 64 8)) (short_tag 65)) ∷ []) (Say.Drained 4)
    ∷ answered (Do.Post 0 0 (filled_line 42)) Say.Ok
    ∷ answered_with (Do.Drain 0) ((Seal 0 (ctr 18446744073709551615 82) (line_of (123 ∷ 120 ∷ 121 ∷ 126 ∷ 127 ∷ 124 ∷ 125 ∷ 114 ∷ 115 ∷ 112 ∷ 113 ∷ 118 ∷ 119 ∷ 116 ∷ 117 ∷ 74 ∷ 75 ∷ 72 ∷ 73 ∷ 78 ∷ 79 ∷ 76 ∷ 77 ∷ 66 ∷ 67 ∷ 64 ∷ 65 ∷ 70 ∷ 71 ∷ 68 ∷ 69 ∷ 90 ∷ 91 ∷ 88 ∷ 89 ∷ 94 ∷ 95 ∷ 92 ∷ 93 ∷ 82 ∷ 83 ∷ 80 ∷ 81 ∷ 86 ∷ 87 ∷ 84 ∷ 85 ∷ 170 ∷ 171 ∷ 168 ∷ 169 ∷ 174 ∷ 175 ∷ 172 ∷ 173 ∷ 162 ∷ 163 ∷ 160 ∷ 161 ∷ 166 ∷ 167 ∷ 164 ∷ 165 ∷ 186 ∷ [])) (short_tag 130)) ∷ []) (Say.Drained 4)
    ∷ answered (Do.Post 0 0 (filled_line 167)) Say.Ok
    ∷ answered_with (Do.Drain 0) ((Seal 0 (ctr 18446744073709551615 83) (line_of (245 ∷ 244 ∷ 243 ∷ 242 ∷ 241 ∷ 240 ∷ 255 ∷ 254 ∷ 253 ∷ 252 ∷ 251 ∷ 250 ∷ 249 ∷ 248 ∷ 199 ∷ 198 ∷ 197 ∷ 196 ∷ 195 ∷ 194 ∷ 193 ∷ 192 ∷ 207 ∷ 206 ∷ 205 ∷ 204 ∷ 203 ∷ 202 ∷ 201 ∷ 200 ∷ 215 ∷ 214 ∷ 213 ∷ 212 ∷ 211 ∷ 210 ∷ 209 ∷ 208 ∷ 223 ∷ 222 ∷ 221 ∷ 220 ∷ 219 ∷ 218 ∷ 217 ∷ 216 ∷ 39 ∷ 38 ∷ 37 ∷ 36 ∷ 35 ∷ 34 ∷ 33 ∷ 32 ∷ 47 ∷ 46 ∷ 45 ∷ 44 ∷ 43 ∷ 42 ∷ 41 ∷ 40 ∷ 55 ∷ 54 ∷ [])) (short_tag 67)) ∷ []) (Say.Drained 4)
    ∷ answered (Do.Post 0 0 (filled_line 11)) Say.Ok
    ∷ answered_with (Do.Drain 0) ((Seal 0 (ctr 18446744073709551615 84) (line_of (88 ∷ 95 ∷ 94 ∷ 93 ∷ 92 ∷ 83 ∷ 82 ∷ 81 ∷ 80 ∷ 87 ∷ 86 ∷ 85 ∷ 84 ∷ 107 ∷ 106 ∷ 105 ∷ 104 ∷ 111 ∷ 110 ∷ 109 ∷ 108 ∷ 99 ∷ 98 ∷ 97 ∷ 96 ∷ 103 ∷ 102 ∷ 101 ∷ 100 ∷ 123 ∷ 122 ∷ 121 ∷ 120 ∷ 127 ∷ 126 ∷ 125 ∷ 124 ∷ 115 ∷ 114 ∷ 113 ∷ 112 ∷ 119 ∷ 118 ∷ 117 ∷ 116 ∷ 139 ∷ 138 ∷ 137 ∷ 136 ∷ 143 ∷ 142 ∷ 141 ∷ 140 ∷ 131 ∷ 130 ∷ 129 ∷ 128 ∷ 135 ∷ 134 ∷ 133 ∷ 132 ∷ 155 ∷ 154 ∷ 153 ∷ [])) (short_tag 132)) ∷ []) (Say.Drained 5)
    ∷ answered (Do.Post 0 0 (filled_line 240)) Say.Ok
    ∷ answered_with (Do.Drain 0) ((Seal 0 (ctr 18446744073709551615 85) (line_of (range_with_len 164 12 ++ range_with_len 144 16 ++ range_with_len 128 16 ++ range_with_len 112 16 ++ range_with_len 96 4)) (short_tag 69)) ∷ []) (Say.Drained 4)
    ∷ answered (Do.Post 0 0 (filled_line 243)) Say.Ok
    ∷ answered_with (Do.Drain 0) ((Seal 0 (ctr 18446744073709551615 86) (line_of (166 ∷ 165 ∷ 164 ∷ 171 ∷ 170 ∷ 169 ∷ 168 ∷ 175 ∷ 174 ∷ 173 ∷ 172 ∷ 147 ∷ 146 ∷ 145 ∷ 144 ∷ 151 ∷ 150 ∷ 149 ∷ 148 ∷ 155 ∷ 154 ∷ 153 ∷ 152 ∷ 159 ∷ 158 ∷ 157 ∷ 156 ∷ 131 ∷ 130 ∷ 129 ∷ 128 ∷ 135 ∷ 134 ∷ 133 ∷ 132 ∷ 139 ∷ 138 ∷ 137 ∷ 136 ∷ 143 ∷ 142 ∷ 141 ∷ 140 ∷ 115 ∷ 114 ∷ 113 ∷ 112 ∷ 119 ∷ 118 ∷ 117 ∷ 116 ∷ 123 ∷ 122 ∷ 121 ∷ 120 ∷ 127 ∷ 126 ∷ 125 ∷ 124 ∷ 99 ∷ 98 ∷ 97 ∷ 96 ∷ 103 ∷ [])) (short_tag 134)) ∷ []) (Say.Drained 4)
    ∷ answered (Do.Post 0 0 (filled_line 253)) Say.Ok
    ∷ answered_with (Do.Drain 0) ((Seal 0 (ctr 18446744073709551615 87) (line_of (171 ∷ 170 ∷ 165 ∷ 164 ∷ 167 ∷ 166 ∷ 161 ∷ 160 ∷ 163 ∷ 162 ∷ 157 ∷ 156 ∷ 159 ∷ 158 ∷ 153 ∷ 152 ∷ 155 ∷ 154 ∷ 149 ∷ 148 ∷ 151 ∷ 150 ∷ 145 ∷ 144 ∷ 147 ∷ 146 ∷ 141 ∷ 140 ∷ 143 ∷ 142 ∷ 137 ∷ 136 ∷ 139 ∷ 138 ∷ 133 ∷ 132 ∷ 135 ∷ 134 ∷ 129 ∷ 128 ∷ 131 ∷ 130 ∷ 125 ∷ 124 ∷ 127 ∷ 126 ∷ 121 ∷ 120 ∷ 123 ∷ 122 ∷ 117 ∷ 116 ∷ 119 ∷ 118 ∷ 113 ∷ 112 ∷ 115 ∷ 114 ∷ 109 ∷ 108 ∷ 111 ∷ 110 ∷ 105 ∷ 104 ∷ [])) (short_tag 71)) ∷ []) (Say.Drained 4)
    ∷ answered (Do.Post 0 0 (filled_line 137)) Say.Ok
    ∷ answered_with (Do.Drain 0) ((Seal 0 (ctr 18446744073709551615 88) (line_of (222 ∷ 209 ∷ 208 ∷ 211 ∷ 210 ∷ 213 ∷ 212 ∷ 215 ∷ 214 ∷ 233 ∷ 232 ∷ 235 ∷ 234 ∷ 237 ∷ 236 ∷ 239 ∷ 238 ∷ 225 ∷ 224 ∷ 227 ∷ 226 ∷ 229 ∷ 228 ∷ 231 ∷ 230 ∷ 249 ∷ 248 ∷ 251 ∷ 250 ∷ 253 ∷ 252 ∷ 255 ∷ 254 ∷ 241 ∷ 240 ∷ 243 ∷ 242 ∷ 245 ∷ 244 ∷ 247 ∷ 246 ∷ 9 ∷ 8 ∷ 11 ∷ 10 ∷ 13 ∷ 12 ∷ 15 ∷ 14 ∷ 1 ∷ 0 ∷ 3 ∷ 2 ∷ 5 ∷ 4 ∷ 7 ∷ 6 ∷ 25 ∷ 24 ∷ 27 ∷ 26 ∷ 29 ∷ 28 ∷ 31 ∷ [])) (short_tag 136)) ∷ []) (Say.Drained 5)
    ∷ answered (Do.Post 0 0 (filled_line 179)) Say.Ok
    ∷ answered_with (Do.Drain 0) ((Seal 0 (ctr 18446744073709551615 89) (line_of (235 ∷ 234 ∷ 233 ∷ 232 ∷ 239 ∷ 238 ∷ 237 ∷ 236 ∷ 211 ∷ 210 ∷ 209 ∷ 208 ∷ 215 ∷ 214 ∷ 213 ∷ 212 ∷ 219 ∷ 218 ∷ 217 ∷ 216 ∷ 223 ∷ 222 ∷ 221 ∷ 220 ∷ 195 ∷ 194 ∷ 193 ∷ 192 ∷ 199 ∷ 198 ∷ 197 ∷ 196 ∷ 203 ∷ 202 ∷ 201 ∷ 200 ∷ 207 ∷ 206 ∷ 205 ∷ 204 ∷ 51 ∷ 50 ∷ 49 ∷ 48 ∷ 55 ∷ 54 ∷ 53 ∷ 52 ∷ 59 ∷ 58 ∷ 57 ∷ 56 ∷ 63 ∷ 62 ∷ 61 ∷ 60 ∷ 35 ∷ 34 ∷ 33 ∷ 32 ∷ 39 ∷ 38 ∷ 37 ∷ 36 ∷ [])) (short_tag 73)) ∷ []) (Say.Drained 4)
    ∷ answered (Do.Post 0 0 (filled_line 164)) Say.Ok
    ∷ answered_with (Do.Drain 0) ((Seal 0 (ctr 18446744073709551615 90) (line_of (253 ∷ 254 ∷ 255 ∷ range_with_len 248 4 ++ range_with_len 196 4 ++ range_with_len 192 4 ++ range_with_len 204 4 ++ range_with_len 200 4 ++ range_with_len 212 4 ++ range_with_len 208 4 ++ range_with_len 220 4 ++ range_with_len 216 4 ++ range_with_len 36 4 ++ range_with_len 32 4 ++ range_with_len 44 4 ++ range_with_len 40 4 ++ range_with_len 52 4 ++ range_with_len 48 4 ++ 60 ∷ [])) (short_tag 138)) ∷ []) (Say.Drained 4)
    ∷ answered (Do.Post 0 0 (filled_line 8)) Say.Ok
    ∷ answered_with (Do.Drain 0) ((Seal 0 (ctr 18446744073709551615 91) (line_of (range_with_len 82 6 ++ range_with_len 104 8 ++ range_with_len 96 8 ++ range_with_len 120 8 ++ range_with_len 112 8 ++ range_with_len 136 8 ++ range_with_len 128 8 ++ range_with_len 152 8 ++ 144 ∷ 145 ∷ [])) (short_tag 75)) ∷ []) (Say.Drained 4)
    ∷ answered (Do.Post 0 0 (filled_line 129)) Say.Ok
    ∷ answered_with (Do.Drain 0) ((Seal 0 (ctr 18446744073709551615 92) (line_of (218 ∷ 221 ∷ 220 ∷ 223 ∷ 222 ∷ 225 ∷ 224 ∷ 227 ∷ 226 ∷ 229 ∷ 228 ∷ 231 ∷ 230 ∷ 233 ∷ 232 ∷ 235 ∷ 234 ∷ 237 ∷ 236 ∷ 239 ∷ 238 ∷ 241 ∷ 240 ∷ 243 ∷ 242 ∷ 245 ∷ 244 ∷ 247 ∷ 246 ∷ 249 ∷ 248 ∷ 251 ∷ 250 ∷ 253 ∷ 252 ∷ 255 ∷ 254 ∷ 1 ∷ 0 ∷ 3 ∷ 2 ∷ 5 ∷ 4 ∷ 7 ∷ 6 ∷ 9 ∷ 8 ∷ 11 ∷ 10 ∷ 13 ∷ 12 ∷ 15 ∷ 14 ∷ 17 ∷ 16 ∷ 19 ∷ 18 ∷ 21 ∷ 20 ∷ 23 ∷ 22 ∷ 25 ∷ 24 ∷ 27 ∷ [])) (short_tag 140)) ∷ []) (Say.Drained 5)
    ∷ answered (Do.Post 0 0 (filled_line 41)) Say.Ok
    ∷ answered_with (Do.Drain 0) ((Seal 0 (ctr 18446744073709551615 93) (line_of (117 ∷ 116 ∷ 119 ∷ 118 ∷ 73 ∷ 72 ∷ 75 ∷ 74 ∷ 77 ∷ 76 ∷ 79 ∷ 78 ∷ 65 ∷ 64 ∷ 67 ∷ 66 ∷ 69 ∷ 68 ∷ 71 ∷ 70 ∷ 89 ∷ 88 ∷ 91 ∷ 90 ∷ 93 ∷ 92 ∷ 95 ∷ 94 ∷ 81 ∷ 80 ∷ 83 ∷ 82 ∷ 85 ∷ 84 ∷ 87 ∷ 86 ∷ 169 ∷ 168 ∷ 171 ∷ 170 ∷ 173 ∷ 172 ∷ 175 ∷ 174 ∷ 161 ∷ 160 ∷ 163 ∷ 162 ∷ 165 ∷ 164 ∷ 167 ∷ 166 ∷ 185 ∷ 184 ∷ 187 ∷ 186 ∷ 189 ∷ 188 ∷ 191 ∷ 190 ∷ 177 ∷ 176 ∷ 179 ∷ 178 ∷ [])) (short_tag 77)) ∷ []) (Say.Drained 4)
    ∷ answered (Do.Post 0 0 (filled_line 119)) Say.Ok
    ∷ answered_with (Do.Drain 0) ((Seal 0 (ctr 18446744073709551615 94) (line_of (42 ∷ 41 ∷ 40 ∷ 23 ∷ 22 ∷ 21 ∷ 20 ∷ 19 ∷ 18 ∷ 17 ∷ 16 ∷ 31 ∷ 30 ∷ 29 ∷ 28 ∷ 27 ∷ 26 ∷ 25 ∷ 24 ∷ 7 ∷ 6 ∷ 5 ∷ 4 ∷ 3 ∷ 2 ∷ 1 ∷ 0 ∷ 15 ∷ 14 ∷ 13 ∷ 12 ∷ 11 ∷ 10 ∷ 9 ∷ 8 ∷ 247 ∷ 246 ∷ 245 ∷ 244 ∷ 243 ∷ 242 ∷ 241 ∷ 240 ∷ 255 ∷ 254 ∷ 253 ∷ 252 ∷ 251 ∷ 250 ∷ 249 ∷ 248 ∷ 231 ∷ 230 ∷ 229 ∷ 228 ∷ 227 ∷ 226 ∷ 225 ∷ 224 ∷ 239 ∷ 238 ∷ 237 ∷ 236 ∷ 235 ∷ [])) (short_tag 142)) ∷ []) (Say.Drained 4)
    ∷ answered (Do.Post 0 0 (filled_line 65)) Say.Ok
    ∷ answered_with (Do.Drain 0) ((Seal 0 (ctr 18446744073709551615 95) (line_of (31 ∷ 30 ∷ 33 ∷ 32 ∷ 35 ∷ 34 ∷ 37 ∷ 36 ∷ 39 ∷ 38 ∷ 41 ∷ 40 ∷ 43 ∷ 42 ∷ 45 ∷ 44 ∷ 47 ∷ 46 ∷ 49 ∷ 48 ∷ 51 ∷ 50 ∷ 53 ∷ 52 ∷ 55 ∷ 54 ∷ 57 ∷ 56 ∷ 59 ∷ 58 ∷ 61 ∷ 60 ∷ 63 ∷ 62 ∷ 193 ∷ 192 ∷ 195 ∷ 194 ∷ 197 ∷ 196 ∷ 199 ∷ 198 ∷ 201 ∷ 200 ∷ 203 ∷ 202 ∷ 205 ∷ 204 ∷ 207 ∷ 206 ∷ 209 ∷ 208 ∷ 211 ∷ 210 ∷ 213 ∷ 212 ∷ 215 ∷ 214 ∷ 217 ∷ 216 ∷ 219 ∷ 218 ∷ 221 ∷ 220 ∷ [])) (short_tag 79)) ∷ []) (Say.Drained 4)
    ∷ answered (Do.Post 0 0 (filled_line 135)) Say.Ok
    ∷ answered_with (Do.Drain 0) ((Seal 0 (ctr 18446744073709551615 96) (line_of (216 ∷ 231 ∷ 230 ∷ 229 ∷ 228 ∷ 227 ∷ 226 ∷ 225 ∷ 224 ∷ 239 ∷ 238 ∷ 237 ∷ 236 ∷ 235 ∷ 234 ∷ 233 ∷ 232 ∷ 247 ∷ 246 ∷ 245 ∷ 244 ∷ 243 ∷ 242 ∷ 241 ∷ 240 ∷ 255 ∷ 254 ∷ 253 ∷ 252 ∷ 251 ∷ 250 ∷ 249 ∷ 248 ∷ 7 ∷ 6 ∷ 5 ∷ 4 ∷ 3 ∷ 2 ∷ 1 ∷ 0 ∷ 15 ∷ 14 ∷ 13 ∷ 12 ∷ 11 ∷ 10 ∷ 9 ∷ 8 ∷ 23 ∷ 22 ∷ 21 ∷ 20 ∷ 19 ∷ 18 ∷ 17 ∷ 16 ∷ 31 ∷ 30 ∷ 29 ∷ 28 ∷ 27 ∷ 26 ∷ 25 ∷ [])) (short_tag 176)) ∷ []) (Say.Drained 5)
    ∷ answered (Do.Post 0 0 (filled_line 150)) Say.Ok
    ∷ answered_with (Do.Drain 0) ((Seal 0 (ctr 18446744073709551615 97) (line_of (246 ∷ 247 ∷ 244 ∷ 245 ∷ 242 ∷ 243 ∷ 240 ∷ 241 ∷ 254 ∷ 255 ∷ 252 ∷ 253 ∷ 250 ∷ 251 ∷ 248 ∷ 249 ∷ 230 ∷ 231 ∷ 228 ∷ 229 ∷ 226 ∷ 227 ∷ 224 ∷ 225 ∷ 238 ∷ 239 ∷ 236 ∷ 237 ∷ 234 ∷ 235 ∷ 232 ∷ 233 ∷ 22 ∷ 23 ∷ 20 ∷ 21 ∷ 18 ∷ 19 ∷ 16 ∷ 17 ∷ 30 ∷ 31 ∷ 28 ∷ 29 ∷ 26 ∷ 27 ∷ 24 ∷ 25 ∷ 6 ∷ 7 ∷ 4 ∷ 5 ∷ 2 ∷ 3 ∷ 0 ∷ 1 ∷ 14 ∷ 15 ∷ 12 ∷ 13 ∷ 10 ∷ 11 ∷ 8 ∷ 9 ∷ [])) (short_tag 113)) ∷ []) (Say.Drained 4)
    ∷ answered (Do.Post 0 0 (filled_line 48)) Say.Ok
    ∷ answered_with (Do.Drain 0) ((Seal 0 (ctr 18446744073709551615 98) (line_of (range_with_len 81 15 ++ range_with_len 64 16 ++ range_with_len 176 16 ++ range_with_len 160 16 ++ 144 ∷ [])) (short_tag 178)) ∷ []) (Say.Drained 4)
    ∷ answered (Do.Post 0 0 (filled_line 117)) Say.Ok
    ∷ answered_with (Do.Drain 0) ((Seal 0 (ctr 18446744073709551615 99) (line_of (23 ∷ 22 ∷ 17 ∷ 16 ∷ 19 ∷ 18 ∷ 29 ∷ 28 ∷ 31 ∷ 30 ∷ 25 ∷ 24 ∷ 27 ∷ 26 ∷ 5 ∷ 4 ∷ 7 ∷ 6 ∷ 1 ∷ 0 ∷ 3 ∷ 2 ∷ 13 ∷ 12 ∷ 15 ∷ 14 ∷ 9 ∷ 8 ∷ 11 ∷ 10 ∷ 245 ∷ 244 ∷ 247 ∷ 246 ∷ 241 ∷ 240 ∷ 243 ∷ 242 ∷ 253 ∷ 252 ∷ 255 ∷ 254 ∷ 249 ∷ 248 ∷ 251 ∷ 250 ∷ 229 ∷ 228 ∷ 231 ∷ 230 ∷ 225 ∷ 224 ∷ 227 ∷ 226 ∷ 237 ∷ 236 ∷ 239 ∷ 238 ∷ 233 ∷ 232 ∷ 235 ∷ 234 ∷ 213 ∷ 212 ∷ [])) (short_tag 115)) ∷ []) (Say.Drained 4)
    ∷ answered (Do.Post 0 0 (filled_line 129)) Say.Ok
    ∷ answered_with (Do.Drain 0) ((Seal 0 (ctr 18446744073709551615 100) (line_of (226 ∷ 229 ∷ 228 ∷ 231 ∷ 230 ∷ 233 ∷ 232 ∷ 235 ∷ 234 ∷ 237 ∷ 236 ∷ 239 ∷ 238 ∷ 241 ∷ 240 ∷ 243 ∷ 242 ∷ 245 ∷ 244 ∷ 247 ∷ 246 ∷ 249 ∷ 248 ∷ 251 ∷ 250 ∷ 253 ∷ 252 ∷ 255 ∷ 254 ∷ 1 ∷ 0 ∷ 3 ∷ 2 ∷ 5 ∷ 4 ∷ 7 ∷ 6 ∷ 9 ∷ 8 ∷ 11 ∷ 10 ∷ 13 ∷ 12 ∷ 15 ∷ 14 ∷ 17 ∷ 16 ∷ 19 ∷ 18 ∷ 21 ∷ 20 ∷ 23 ∷ 22 ∷ 25 ∷ 24 ∷ 27 ∷ 26 ∷ 29 ∷ 28 ∷ 31 ∷ 30 ∷ 33 ∷ 32 ∷ 35 ∷ [])) (short_tag 180)) ∷ []) (Say.Drained 5)
    ∷ answered (Do.Post 0 0 (filled_line 238)) Say.Ok
    ∷ answered_with (Do.Drain 0) ((Seal 0 (ctr 18446744073709551615 101) (line_of (138 ∷ 139 ∷ 136 ∷ 137 ∷ 134 ∷ 135 ∷ 132 ∷ 133 ∷ 130 ∷ 131 ∷ 128 ∷ 129 ∷ 158 ∷ 159 ∷ 156 ∷ 157 ∷ 154 ∷ 155 ∷ 152 ∷ 153 ∷ 150 ∷ 151 ∷ 148 ∷ 149 ∷ 146 ∷ 147 ∷ 144 ∷ 145 ∷ 110 ∷ 111 ∷ 108 ∷ 109 ∷ 106 ∷ 107 ∷ 104 ∷ 105 ∷ 102 ∷ 103 ∷ 100 ∷ 101 ∷ 98 ∷ 99 ∷ 96 ∷ 97 ∷ 126 ∷ 127 ∷ 124 ∷ 125 ∷ 122 ∷ 123 ∷ 120 ∷ 121 ∷ 118 ∷ 119 ∷ 116 ∷ 117 ∷ 114 ∷ 115 ∷ 112 ∷ 113 ∷ 78 ∷ 79 ∷ 76 ∷ 77 ∷ [])) (short_tag 117)) ∷ []) (Say.Drained 4)
    ∷ answered (Do.Post 0 0 (filled_line 93)) Say.Ok
    ∷ answered_with (Do.Drain 0) ((Seal 0 (ctr 18446744073709551615 102) (line_of (56 ∷ 59 ∷ 58 ∷ 53 ∷ 52 ∷ 55 ∷ 54 ∷ 49 ∷ 48 ∷ 51 ∷ 50 ∷ 45 ∷ 44 ∷ 47 ∷ 46 ∷ 41 ∷ 40 ∷ 43 ∷ 42 ∷ 37 ∷ 36 ∷ 39 ∷ 38 ∷ 33 ∷ 32 ∷ 35 ∷ 34 ∷ 221 ∷ 220 ∷ 223 ∷ 222 ∷ 217 ∷ 216 ∷ 219 ∷ 218 ∷ 213 ∷ 212 ∷ 215 ∷ 214 ∷ 209 ∷ 208 ∷ 211 ∷ 210 ∷ 205 ∷ 204 ∷ 207 ∷ 206 ∷ 201 ∷ 200 ∷ 203 ∷ 202 ∷ 197 ∷ 196 ∷ 199 ∷ 198 ∷ 193 ∷ 192 ∷ 195 ∷ 194 ∷ 253 ∷ 252 ∷ 255 ∷ 254 ∷ 249 ∷ [])) (short_tag 182)) ∷ []) (Say.Drained 4)
    ∷ answered (Do.Post 0 0 (filled_line 27)) Say.Ok
    ∷ answered_with (Do.Drain 0) ((Seal 0 (ctr 18446744073709551615 103) (line_of (125 ∷ 124 ∷ 115 ∷ 114 ∷ 113 ∷ 112 ∷ 119 ∷ 118 ∷ 117 ∷ 116 ∷ 107 ∷ 106 ∷ 105 ∷ 104 ∷ 111 ∷ 110 ∷ 109 ∷ 108 ∷ 99 ∷ 98 ∷ 97 ∷ 96 ∷ 103 ∷ 102 ∷ 101 ∷ 100 ∷ 155 ∷ 154 ∷ 153 ∷ 152 ∷ 159 ∷ 158 ∷ 157 ∷ 156 ∷ 147 ∷ 146 ∷ 145 ∷ 144 ∷ 151 ∷ 150 ∷ 149 ∷ 148 ∷ 139 ∷ 138 ∷ 137 ∷ 136 ∷ 143 ∷ 142 ∷ 141 ∷ 140 ∷ 131 ∷ 130 ∷ 129 ∷ 128 ∷ 135 ∷ 134 ∷ 133 ∷ 132 ∷ 187 ∷ 186 ∷ 185 ∷ 184 ∷ 191 ∷ 190 ∷ [])) (short_tag 119)) ∷ []) (Say.Drained 4)
    ∷ answered (Do.Post 0 0 (filled_line 74)) Say.Ok
    ∷ answered_with (Do.Drain 0) ((Seal 0 (ctr 18446744073709551615 104) (line_of (45 ∷ 34 ∷ 35 ∷ 32 ∷ 33 ∷ 38 ∷ 39 ∷ 36 ∷ 37 ∷ 58 ∷ 59 ∷ 56 ∷ 57 ∷ 62 ∷ 63 ∷ 60 ∷ 61 ∷ 50 ∷ 51 ∷ 48 ∷ 49 ∷ 54 ∷ 55 ∷ 52 ∷ 53 ∷ 202 ∷ 203 ∷ 200 ∷ 201 ∷ 206 ∷ 207 ∷ 204 ∷ 205 ∷ 194 ∷ 195 ∷ 192 ∷ 193 ∷ 198 ∷ 199 ∷ 196 ∷ 197 ∷ 218 ∷ 219 ∷ 216 ∷ 217 ∷ 222 ∷ 223 ∷ 220 ∷ 221 ∷ 210 ∷ 211 ∷ 208 ∷ 209 ∷ 214 ∷ 215 ∷ 212 ∷ 213 ∷ 234 ∷ 235 ∷ 232 ∷ 233 ∷ 238 ∷ 239 ∷ 236 ∷ [])) (short_tag 184)) ∷ []) (Say.Drained 5)
    ∷ answered (Do.Post 0 0 (filled_line 127)) Say.Ok
    ∷ answered_with (Do.Drain 0) ((Seal 0 (ctr 18446744073709551615 105) (line_of (23 ∷ 22 ∷ 21 ∷ 20 ∷ 19 ∷ 18 ∷ 17 ∷ 16 ∷ 15 ∷ 14 ∷ 13 ∷ 12 ∷ 11 ∷ 10 ∷ 9 ∷ 8 ∷ 7 ∷ 6 ∷ 5 ∷ 4 ∷ 3 ∷ 2 ∷ 1 ∷ 0 ∷ 255 ∷ 254 ∷ 253 ∷ 252 ∷ 251 ∷ 250 ∷ 249 ∷ 248 ∷ 247 ∷ 246 ∷ 245 ∷ 244 ∷ 243 ∷ 242 ∷ 241 ∷ 240 ∷ 239 ∷ 238 ∷ 237 ∷ 236 ∷ 235 ∷ 234 ∷ 233 ∷ 232 ∷ 231 ∷ 230 ∷ 229 ∷ 228 ∷ 227 ∷ 226 ∷ 225 ∷ 224 ∷ 223 ∷ 222 ∷ 221 ∷ 220 ∷ 219 ∷ 218 ∷ 217 ∷ 216 ∷ [])) (short_tag 121)) ∷ []) (Say.Drained 4)
    ∷ answered (Do.Post 0 0 (filled_line 86)) Say.Ok
    ∷ answered_with (Do.Drain 0) ((Seal 0 (ctr 18446744073709551615 106) (line_of (63 ∷ 60 ∷ 61 ∷ 58 ∷ 59 ∷ 56 ∷ 57 ∷ 38 ∷ 39 ∷ 36 ∷ 37 ∷ 34 ∷ 35 ∷ 32 ∷ 33 ∷ 46 ∷ 47 ∷ 44 ∷ 45 ∷ 42 ∷ 43 ∷ 40 ∷ 41 ∷ 214 ∷ 215 ∷ 212 ∷ 213 ∷ 210 ∷ 211 ∷ 208 ∷ 209 ∷ 222 ∷ 223 ∷ 220 ∷ 221 ∷ 218 ∷ 219 ∷ 216 ∷ 217 ∷ 198 ∷ 199 ∷ 196 ∷ 197 ∷ 194 ∷ 195 ∷ 192 ∷ 193 ∷ 206 ∷ 207 ∷ 204 ∷ 205 ∷ 202 ∷ 203 ∷ 200 ∷ 201 ∷ 246 ∷ 247 ∷ 244 ∷ 245 ∷ 242 ∷ 243 ∷ 240 ∷ 241 ∷ 254 ∷ [])) (short_tag 186)) ∷ []) (Say.Drained 4)
    ∷ answered (Do.Post 0 0 (filled_line 224)) Say.Ok
    ∷ answered_with (Do.Drain 0) ((Seal 0 (ctr 18446744073709551615 107) (line_of (range_with_len 138 22 ++ range_with_len 96 32 ++ range_with_len 64 10)) (short_tag 123)) ∷ []) (Say.Drained 4)
    ∷ answered (Do.Post 0 0 (filled_line 41)) Say.Ok
    ∷ answered_with (Do.Drain 0) ((Seal 0 (ctr 18446744073709551615 108) (line_of (66 ∷ 69 ∷ 68 ∷ 71 ∷ 70 ∷ 89 ∷ 88 ∷ 91 ∷ 90 ∷ 93 ∷ 92 ∷ 95 ∷ 94 ∷ 81 ∷ 80 ∷ 83 ∷ 82 ∷ 85 ∷ 84 ∷ 87 ∷ 86 ∷ 169 ∷ 168 ∷ 171 ∷ 170 ∷ 173 ∷ 172 ∷ 175 ∷ 174 ∷ 161 ∷ 160 ∷ 163 ∷ 162 ∷ 165 ∷ 164 ∷ 167 ∷ 166 ∷ 185 ∷ 184 ∷ 187 ∷ 186 ∷ 189 ∷ 188 ∷ 191 ∷ 190 ∷ 177 ∷ 176 ∷ 179 ∷ 178 ∷ 181 ∷ 180 ∷ 183 ∷ 182 ∷ 137 ∷ 136 ∷ 139 ∷ 138 ∷ 141 ∷ 140 ∷ 143 ∷ 142 ∷ 129 ∷ 128 ∷ 131 ∷ [])) (short_tag 188)) ∷ []) (Say.Drained 5)
    ∷ answered (Do.Post 0 0 (filled_line 240)) Say.Ok
    ∷ answered_with (Do.Drain 0) ((Seal 0 (ctr 18446744073709551615 109) (line_of (range_with_len 156 4 ++ range_with_len 128 16 ++ range_with_len 112 16 ++ range_with_len 96 16 ++ range_with_len 80 12)) (short_tag 125)) ∷ []) (Say.Drained 4)
    ∷ answered (Do.Post 0 0 (filled_line 74)) Say.Ok
    ∷ answered_with (Do.Drain 0) ((Seal 0 (ctr 18446744073709551615 110) (line_of (39 ∷ 36 ∷ 37 ∷ 58 ∷ 59 ∷ 56 ∷ 57 ∷ 62 ∷ 63 ∷ 60 ∷ 61 ∷ 50 ∷ 51 ∷ 48 ∷ 49 ∷ 54 ∷ 55 ∷ 52 ∷ 53 ∷ 202 ∷ 203 ∷ 200 ∷ 201 ∷ 206 ∷ 207 ∷ 204 ∷ 205 ∷ 194 ∷ 195 ∷ 192 ∷ 193 ∷ 198 ∷ 199 ∷ 196 ∷ 197 ∷ 218 ∷ 219 ∷ 216 ∷ 217 ∷ 222 ∷ 223 ∷ 220 ∷ 221 ∷ 210 ∷ 211 ∷ 208 ∷ 209 ∷ 214 ∷ 215 ∷ 212 ∷ 213 ∷ 234 ∷ 235 ∷ 232 ∷ 233 ∷ 238 ∷ 239 ∷ 236 ∷ 237 ∷ 226 ∷ 227 ∷ 224 ∷ 225 ∷ 230 ∷ [])) (short_tag 190)) ∷ []) (Say.Drained 4)
    ∷ answered (Do.Post 0 0 (filled_line 58)) Say.Ok
    ∷ answered_with (Do.Drain 0) ((Seal 0 (ctr 18446744073709551615 111) (line_of (84 ∷ 85 ∷ 74 ∷ 75 ∷ 72 ∷ 73 ∷ 78 ∷ 79 ∷ 76 ∷ 77 ∷ 66 ∷ 67 ∷ 64 ∷ 65 ∷ 70 ∷ 71 ∷ 68 ∷ 69 ∷ 186 ∷ 187 ∷ 184 ∷ 185 ∷ 190 ∷ 191 ∷ 188 ∷ 189 ∷ 178 ∷ 179 ∷ 176 ∷ 177 ∷ 182 ∷ 183 ∷ 180 ∷ 181 ∷ 170 ∷ 171 ∷ 168 ∷ 169 ∷ 174 ∷ 175 ∷ 172 ∷ 173 ∷ 162 ∷ 163 ∷ 160 ∷ 161 ∷ 166 ∷ 167 ∷ 164 ∷ 165 ∷ 154 ∷ 155 ∷ 152 ∷ 153 ∷ 158 ∷ 159 ∷ 156 ∷ 157 ∷ 146 ∷ 147 ∷ 144 ∷ 145 ∷ 150 ∷ 151 ∷ [])) (short_tag 127)) ∷ []) (Say.Drained 4)
    ∷ answered (Do.Post 0 0 (filled_line 194)) Say.Ok
    ∷ answered_with (Do.Drain 0) ((Seal 0 (ctr 18446744073709551615 112) (line_of (173 ∷ 178 ∷ 179 ∷ 176 ∷ 177 ∷ 182 ∷ 183 ∷ 180 ∷ 181 ∷ 186 ∷ 187 ∷ 184 ∷ 185 ∷ 190 ∷ 191 ∷ 188 ∷ 189 ∷ 66 ∷ 67 ∷ 64 ∷ 65 ∷ 70 ∷ 71 ∷ 68 ∷ 69 ∷ 74 ∷ 75 ∷ 72 ∷ 73 ∷ 78 ∷ 79 ∷ 76 ∷ 77 ∷ 82 ∷ 83 ∷ 80 ∷ 81 ∷ 86 ∷ 87 ∷ 84 ∷ 85 ∷ 90 ∷ 91 ∷ 88 ∷ 89 ∷ 94 ∷ 95 ∷ 92 ∷ 93 ∷ 98 ∷ 99 ∷ 96 ∷ 97 ∷ 102 ∷ 103 ∷ 100 ∷ 101 ∷ 106 ∷ 107 ∷ 104 ∷ 105 ∷ 110 ∷ 111 ∷ 108 ∷ [])) (short_tag 160)) ∷ []) (Say.Drained 5)
    ∷ answered (Do.Post 0 0 (filled_line 239)) Say.Ok
    ∷ answered_with (Do.Drain 0) ((Seal 0 (ctr 18446744073709551615 113) (line_of (159 ∷ 158 ∷ 157 ∷ 156 ∷ 155 ∷ 154 ∷ 153 ∷ 152 ∷ 151 ∷ 150 ∷ 149 ∷ 148 ∷ 147 ∷ 146 ∷ 145 ∷ 144 ∷ 111 ∷ 110 ∷ 109 ∷ 108 ∷ 107 ∷ 106 ∷ 105 ∷ 104 ∷ 103 ∷ 102 ∷ 101 ∷ 100 ∷ 99 ∷ 98 ∷ 97 ∷ 96 ∷ 127 ∷ 126 ∷ 125 ∷ 124 ∷ 123 ∷ 122 ∷ 121 ∷ 120 ∷ 119 ∷ 118 ∷ 117 ∷ 116 ∷ 115 ∷ 114 ∷ 113 ∷ 112 ∷ 79 ∷ 78 ∷ 77 ∷ 76 ∷ 75 ∷ 74 ∷ 73 ∷ 72 ∷ 71 ∷ 70 ∷ 69 ∷ 68 ∷ 67 ∷ 66 ∷ 65 ∷ 64 ∷ [])) (short_tag 97)) ∷ []) (Say.Drained 4)
    ∷ answered (Do.Post 0 0 (filled_line 242)) Say.Ok
    ∷ answered_with (Do.Drain 0) ((Seal 0 (ctr 18446744073709551615 114) (line_of (131 ∷ 128 ∷ 129 ∷ 134 ∷ 135 ∷ 132 ∷ 133 ∷ 138 ∷ 139 ∷ 136 ∷ 137 ∷ 142 ∷ 143 ∷ 140 ∷ 141 ∷ 114 ∷ 115 ∷ 112 ∷ 113 ∷ 118 ∷ 119 ∷ 116 ∷ 117 ∷ 122 ∷ 123 ∷ 120 ∷ 121 ∷ 126 ∷ 127 ∷ 124 ∷ 125 ∷ 98 ∷ 99 ∷ 96 ∷ 97 ∷ 102 ∷ 103 ∷ 100 ∷ 101 ∷ 106 ∷ 107 ∷ 104 ∷ 105 ∷ 110 ∷ 111 ∷ 108 ∷ 109 ∷ 82 ∷ 83 ∷ 80 ∷ 81 ∷ 86 ∷ 87 ∷ 84 ∷ 85 ∷ 90 ∷ 91 ∷ 88 ∷ 89 ∷ 94 ∷ 95 ∷ 92 ∷ 93 ∷ 66 ∷ [])) (short_tag 162)) ∷ []) (Say.Drained 4)
    ∷ answered (Do.Post 0 0 (filled_line 163)) Say.Ok
    ∷ answered_with (Do.Drain 0) ((Seal 0 (ctr 18446744073709551615 115) (line_of (209 ∷ 208 ∷ 215 ∷ 214 ∷ 213 ∷ 212 ∷ 219 ∷ 218 ∷ 217 ∷ 216 ∷ 223 ∷ 222 ∷ 221 ∷ 220 ∷ 35 ∷ 34 ∷ 33 ∷ 32 ∷ 39 ∷ 38 ∷ 37 ∷ 36 ∷ 43 ∷ 42 ∷ 41 ∷ 40 ∷ 47 ∷ 46 ∷ 45 ∷ 44 ∷ 51 ∷ 50 ∷ 49 ∷ 48 ∷ 55 ∷ 54 ∷ 53 ∷ 52 ∷ 59 ∷ 58 ∷ 57 ∷ 56 ∷ 63 ∷ 62 ∷ 61 ∷ 60 ∷ 3 ∷ 2 ∷ 1 ∷ 0 ∷ 7 ∷ 6 ∷ 5 ∷ 4 ∷ 11 ∷ 10 ∷ 9 ∷ 8 ∷ 15 ∷ 14 ∷ 13 ∷ 12 ∷ 19 ∷ 18 ∷ [])) (short_tag 99)) ∷ []) (Say.Drained 4)
    ∷ answered (Do.Post 0 0 (filled_line 183)) Say.Ok
    ∷ answered_with (Do.Drain 0) ((Seal 0 (ctr 18446744073709551615 116) (line_of (196 ∷ 195 ∷ 194 ∷ 193 ∷ 192 ∷ 207 ∷ 206 ∷ 205 ∷ 204 ∷ 203 ∷ 202 ∷ 201 ∷ 200 ∷ 55 ∷ 54 ∷ 53 ∷ 52 ∷ 51 ∷ 50 ∷ 49 ∷ 48 ∷ 63 ∷ 62 ∷ 61 ∷ 60 ∷ 59 ∷ 58 ∷ 57 ∷ 56 ∷ 39 ∷ 38 ∷ 37 ∷ 36 ∷ 35 ∷ 34 ∷ 33 ∷ 32 ∷ 47 ∷ 46 ∷ 45 ∷ 44 ∷ 43 ∷ 42 ∷ 41 ∷ 40 ∷ 23 ∷ 22 ∷ 21 ∷ 20 ∷ 19 ∷ 18 ∷ 17 ∷ 16 ∷ 31 ∷ 30 ∷ 29 ∷ 28 ∷ 27 ∷ 26 ∷ 25 ∷ 24 ∷ 7 ∷ 6 ∷ 5 ∷ [])) (short_tag 164)) ∷ []) (Say.Drained 5)
    ∷ answered (Do.Post 0 0 (filled_line 35)) Say.Ok
    ∷ answered_with (Do.Drain 0) ((Seal 0 (ctr 18446744073709551615 117) (line_of (87 ∷ 86 ∷ 85 ∷ 84 ∷ 91 ∷ 90 ∷ 89 ∷ 88 ∷ 95 ∷ 94 ∷ 93 ∷ 92 ∷ 163 ∷ 162 ∷ 161 ∷ 160 ∷ 167 ∷ 166 ∷ 165 ∷ 164 ∷ 171 ∷ 170 ∷ 169 ∷ 168 ∷ 175 ∷ 174 ∷ 173 ∷ 172 ∷ 179 ∷ 178 ∷ 177 ∷ 176 ∷ 183 ∷ 182 ∷ 181 ∷ 180 ∷ 187 ∷ 186 ∷ 185 ∷ 184 ∷ 191 ∷ 190 ∷ 189 ∷ 188 ∷ 131 ∷ 130 ∷ 129 ∷ 128 ∷ 135 ∷ 134 ∷ 133 ∷ 132 ∷ 139 ∷ 138 ∷ 137 ∷ 136 ∷ 143 ∷ 142 ∷ 141 ∷ 140 ∷ 147 ∷ 146 ∷ 145 ∷ 144 ∷ [])) (short_tag 101)) ∷ []) (Say.Drained 4)
    ∷ answered (Do.Post 0 0 (filled_line 9)) Say.Ok
    ∷ answered_with (Do.Drain 0) ((Seal 0 (ctr 18446744073709551615 118) (line_of (124 ∷ 127 ∷ 126 ∷ 113 ∷ 112 ∷ 115 ∷ 114 ∷ 117 ∷ 116 ∷ 119 ∷ 118 ∷ 137 ∷ 136 ∷ 139 ∷ 138 ∷ 141 ∷ 140 ∷ 143 ∷ 142 ∷ 129 ∷ 128 ∷ 131 ∷ 130 ∷ 133 ∷ 132 ∷ 135 ∷ 134 ∷ 153 ∷ 152 ∷ 155 ∷ 154 ∷ 157 ∷ 156 ∷ 159 ∷ 158 ∷ 145 ∷ 144 ∷ 147 ∷ 146 ∷ 149 ∷ 148 ∷ 151 ∷ 150 ∷ 169 ∷ 168 ∷ 171 ∷ 170 ∷ 173 ∷ 172 ∷ 175 ∷ 174 ∷ 161 ∷ 160 ∷ 163 ∷ 162 ∷ 165 ∷ 164 ∷ 167 ∷ 166 ∷ 185 ∷ 184 ∷ 187 ∷ 186 ∷ 189 ∷ [])) (short_tag 166)) ∷ []) (Say.Drained 4)
    ∷ answered (Do.Post 0 0 (filled_line 165)) Say.Ok
    ∷ answered_with (Do.Drain 0) ((Seal 0 (ctr 18446744073709551615 119) (line_of (211 ∷ 210 ∷ 221 ∷ 220 ∷ 223 ∷ 222 ∷ 217 ∷ 216 ∷ 219 ∷ 218 ∷ 37 ∷ 36 ∷ 39 ∷ 38 ∷ 33 ∷ 32 ∷ 35 ∷ 34 ∷ 45 ∷ 44 ∷ 47 ∷ 46 ∷ 41 ∷ 40 ∷ 43 ∷ 42 ∷ 53 ∷ 52 ∷ 55 ∷ 54 ∷ 49 ∷ 48 ∷ 51 ∷ 50 ∷ 61 ∷ 60 ∷ 63 ∷ 62 ∷ 57 ∷ 56 ∷ 59 ∷ 58 ∷ 5 ∷ 4 ∷ 7 ∷ 6 ∷ 1 ∷ 0 ∷ 3 ∷ 2 ∷ 13 ∷ 12 ∷ 15 ∷ 14 ∷ 9 ∷ 8 ∷ 11 ∷ 10 ∷ 21 ∷ 20 ∷ 23 ∷ 22 ∷ 17 ∷ 16 ∷ [])) (short_tag 103)) ∷ []) (Say.Drained 4)
    ∷ answered (Do.Post 0 0 (filled_line 33)) Say.Ok
    ∷ answered_with (Do.Drain 0) ((Seal 0 (ctr 18446744073709551615 120) (line_of (86 ∷ 89 ∷ 88 ∷ 91 ∷ 90 ∷ 93 ∷ 92 ∷ 95 ∷ 94 ∷ 161 ∷ 160 ∷ 163 ∷ 162 ∷ 165 ∷ 164 ∷ 167 ∷ 166 ∷ 169 ∷ 168 ∷ 171 ∷ 170 ∷ 173 ∷ 172 ∷ 175 ∷ 174 ∷ 177 ∷ 176 ∷ 179 ∷ 178 ∷ 181 ∷ 180 ∷ 183 ∷ 182 ∷ 185 ∷ 184 ∷ 187 ∷ 186 ∷ 189 ∷ 188 ∷ 191 ∷ 190 ∷ 129 ∷ 128 ∷ 131 ∷ 130 ∷ 133 ∷ 132 ∷ 135 ∷ 134 ∷ 137 ∷ 136 ∷ 139 ∷ 138 ∷ 141 ∷ 140 ∷ 143 ∷ 142 ∷ 145 ∷ 144 ∷ 147 ∷ 146 ∷ 149 ∷ 148 ∷ 151 ∷ [])) (short_tag 168)) ∷ []) (Say.Drained 5)
    ∷ answered (Do.Post 0 0 (filled_line 128)) Say.Ok
    ∷ answered_with (Do.Drain 0) ((Seal 0 (ctr 18446744073709551615 121) (line_of (range_with_len 248 8 ++ range_with_len 0 56)) (short_tag 105)) ∷ []) (Say.Drained 4)
    ∷ answered (Do.Post 0 0 (filled_line 27)) Say.Ok
    ∷ answered_with (Do.Drain 0) ((Seal 0 (ctr 18446744073709551615 122) (line_of (98 ∷ 97 ∷ 96 ∷ 103 ∷ 102 ∷ 101 ∷ 100 ∷ 155 ∷ 154 ∷ 153 ∷ 152 ∷ 159 ∷ 158 ∷ 157 ∷ 156 ∷ 147 ∷ 146 ∷ 145 ∷ 144 ∷ 151 ∷ 150 ∷ 149 ∷ 148 ∷ 139 ∷ 138 ∷ 137 ∷ 136 ∷ 143 ∷ 142 ∷ 141 ∷ 140 ∷ 131 ∷ 130 ∷ 129 ∷ 128 ∷ 135 ∷ 134 ∷ 133 ∷ 132 ∷ 187 ∷ 186 ∷ 185 ∷ 184 ∷ 191 ∷ 190 ∷ 189 ∷ 188 ∷ 179 ∷ 178 ∷ 177 ∷ 176 ∷ 183 ∷ 182 ∷ 181 ∷ 180 ∷ 171 ∷ 170 ∷ 169 ∷ 168 ∷ 175 ∷ 174 ∷ 173 ∷ 172 ∷ 163 ∷ [])) (short_tag 170)) ∷ []) (Say.Drained 4)
    ∷ answered (Do.Post 0 0 (filled_line 26)) Say.Ok
    ∷ answered_with (Do.Drain 0) ((Seal 0 (ctr 18446744073709551615 123) (line_of (96 ∷ 97 ∷ 102 ∷ 103 ∷ 100 ∷ 101 ∷ 154 ∷ 155 ∷ 152 ∷ 153 ∷ 158 ∷ 159 ∷ 156 ∷ 157 ∷ 146 ∷ 147 ∷ 144 ∷ 145 ∷ 150 ∷ 151 ∷ 148 ∷ 149 ∷ 138 ∷ 139 ∷ 136 ∷ 137 ∷ 142 ∷ 143 ∷ 140 ∷ 141 ∷ 130 ∷ 131 ∷ 128 ∷ 129 ∷ 134 ∷ 135 ∷ 132 ∷ 133 ∷ 186 ∷ 187 ∷ 184 ∷ 185 ∷ 190 ∷ 191 ∷ 188 ∷ 189 ∷ 178 ∷ 179 ∷ 176 ∷ 177 ∷ 182 ∷ 183 ∷ 180 ∷ 181 ∷ 170 ∷ 171 ∷ 168 ∷ 169 ∷ 174 ∷ 175 ∷ 172 ∷ 173 ∷ 162 ∷ 163 ∷ [])) (short_tag 107)) ∷ []) (Say.Drained 4)
    ∷ answered (Do.Post 0 0 (filled_line 168)) Say.Ok
    ∷ answered_with (Do.Drain 0) ((Seal 0 (ctr 18446744073709551615 124) (line_of (range_with_len 211 5 ++ range_with_len 40 8 ++ range_with_len 32 8 ++ range_with_len 56 8 ++ range_with_len 48 8 ++ range_with_len 8 8 ++ range_with_len 0 8 ++ range_with_len 24 8 ++ 16 ∷ 17 ∷ 18 ∷ [])) (short_tag 172)) ∷ []) (Say.Drained 5)
    ∷ []

-- Without tampering, 312 commands
abbrev pub rare_3_setup : Setup
rare_3_setup =
    record {
      shape = record { levels = 1; sets = 1; ways = 1; loss = 4; major = 18446744073709551615; persist = 0; shadow = true; durable = false; combines = false };
      formulas = weak;
    }

abbrev pub rare_3 : Trace
rare_3 =
    answered (Do.Post 0 0 (filled_line 99)) Say.Ok
    ∷ answered_with (Do.Drain 0) ((Seal 0 (ctr 18446744073709551615 125) (line_of (31 ∷ 30 ∷ 29 ∷ 28 ∷ 227 ∷ 226 ∷ 225 ∷ 224 ∷ 231 ∷ 230 ∷ 229 ∷ 228 ∷ 235 ∷ 234 ∷ 233 ∷ 232 ∷ 239 ∷ 238 ∷ 237 ∷ 236 ∷ 243 ∷ 242 ∷ 241 ∷ 240 ∷ 247 ∷ 246 ∷ 245 ∷ 244 ∷ 251 ∷ 250 ∷ 249 ∷ 248 ∷ 255 ∷ 254 ∷ 253 ∷ 252 ∷ 195 ∷ 194 ∷ 193 ∷ 192 ∷ 199 ∷ 198 ∷ 197 ∷ 196 ∷ 203 ∷ 202 ∷ 201 ∷ 200 ∷ 207 ∷ 206 ∷ 205 ∷ 204 ∷ 211 ∷ 210 ∷ 209 ∷ 208 ∷ 215 ∷ 214 ∷ 213 ∷ 212 ∷ 219 ∷ 218 ∷ 217 ∷ 216 ∷ [])) (short_tag 109)) ∷ []) (Say.Drained 4)
    ∷ answered (Do.Post 0 0 (filled_line 51)) Say.Ok
    ∷ answered_with (Do.Drain 0) ((Seal 0 (ctr 18446744073709551615 126) (line_of (78 ∷ 77 ∷ 76 ∷ 179 ∷ 178 ∷ 177 ∷ 176 ∷ 183 ∷ 182 ∷ 181 ∷ 180 ∷ 187 ∷ 186 ∷ 185 ∷ 184 ∷ 191 ∷ 190 ∷ 189 ∷ 188 ∷ 163 ∷ 162 ∷ 161 ∷ 160 ∷ 167 ∷ 166 ∷ 165 ∷ 164 ∷ 171 ∷ 170 ∷ 169 ∷ 168 ∷ 175 ∷ 174 ∷ 173 ∷ 172 ∷ 147 ∷ 146 ∷ 145 ∷ 144 ∷ 151 ∷ 150 ∷ 149 ∷ 148 ∷ 155 ∷ 154 ∷ 153 ∷ 152 ∷ 159 ∷ 158 ∷ 157 ∷ 156 ∷ 131 ∷ 130 ∷ 129 ∷ 128 ∷ 135 ∷ 134 ∷ 133 ∷ 132 ∷ 139 ∷ 138 ∷ 137 ∷ 136 ∷ 143 ∷ [])) (short_tag 174)) ∷ []) (Say.Drained 4)
    ∷ answered Do.Off Say.Ok
    ∷ answered Do.On (Say.Recovered 256 5 4)
    ∷ answered (Do.Drain 0) Say.Empty
    ∷ answered (Do.Post 0 1 (filled_line 30)) Say.Ok
    ∷ answered_with (Do.Drain 0) ((Seal 1 (ctr 18446744073709551615 1) (line_of (31 ∷ 28 ∷ 29 ∷ 26 ∷ 27 ∷ 24 ∷ 25 ∷ 22 ∷ 23 ∷ 20 ∷ 21 ∷ 18 ∷ 19 ∷ 16 ∷ 17 ∷ 14 ∷ 15 ∷ 12 ∷ 13 ∷ 10 ∷ 11 ∷ 8 ∷ 9 ∷ 6 ∷ 7 ∷ 4 ∷ 5 ∷ 2 ∷ 3 ∷ 0 ∷ 1 ∷ 62 ∷ 63 ∷ 60 ∷ 61 ∷ 58 ∷ 59 ∷ 56 ∷ 57 ∷ 54 ∷ 55 ∷ 52 ∷ 53 ∷ 50 ∷ 51 ∷ 48 ∷ 49 ∷ 46 ∷ 47 ∷ 44 ∷ 45 ∷ 42 ∷ 43 ∷ 40 ∷ 41 ∷ 38 ∷ 39 ∷ 36 ∷ 37 ∷ 34 ∷ 35 ∷ 32 ∷ 33 ∷ 94 ∷ [])) (short_tag 80)) ∷ []) (Say.Drained 6)
    ∷ answered Do.On Say.Already
    ∷ answered (Do.Cut 3) Say.Ok
    ∷ answered (Do.Fence 0) (Say.Fenced 0 0)
    ∷ answered (Do.Peek 139) (Say.Raw (line_of (range_with_len 138 64)))
    ∷ answered (Do.Drain 0) Say.Empty
    ∷ answered (Do.Drain 1) Say.Empty
    ∷ answered (Do.Drain 0) Say.Empty
    ∷ answered (Do.Post 0 0 (filled_line 245)) Say.Ok
    ∷ answered (Do.Fence 1) (Say.Fenced 0 0)
    ∷ answered Do.Turn Say.Idle
    ∷ answered (Do.Post 1 0 (filled_line 93)) Say.Ok
    ∷ answered Do.Flush (Say.Flushed 0 1)
    ∷ answered_with (Do.Fence 1) ((Seal 0 (ctr 18446744073709551615 127) (line_of (35 ∷ 34 ∷ 221 ∷ 220 ∷ 223 ∷ 222 ∷ 217 ∷ 216 ∷ 219 ∷ 218 ∷ 213 ∷ 212 ∷ 215 ∷ 214 ∷ 209 ∷ 208 ∷ 211 ∷ 210 ∷ 205 ∷ 204 ∷ 207 ∷ 206 ∷ 201 ∷ 200 ∷ 203 ∷ 202 ∷ 197 ∷ 196 ∷ 199 ∷ 198 ∷ 193 ∷ 192 ∷ 195 ∷ 194 ∷ 253 ∷ 252 ∷ 255 ∷ 254 ∷ 249 ∷ 248 ∷ 251 ∷ 250 ∷ 245 ∷ 244 ∷ 247 ∷ 246 ∷ 241 ∷ 240 ∷ 243 ∷ 242 ∷ 237 ∷ 236 ∷ 239 ∷ 238 ∷ 233 ∷ 232 ∷ 235 ∷ 234 ∷ 229 ∷ 228 ∷ 231 ∷ 230 ∷ 225 ∷ 224 ∷ [])) (short_tag 111)) ∷ []) (Say.CutKept (Some 0) 2)
    ∷ answered (Do.Read 0 64) Say.Off
    ∷ answered (Do.Fence 0) Say.Off
    ∷ answered (Do.Read 0 64) Say.Off
    ∷ answered Do.On (Say.Recovered 254 5 7)
    ∷ answered (Do.Read 0 0) (Say.Got (filled_line 93) 0)
    ∷ answered Do.Turn Say.Idle
    ∷ answered Do.Turn Say.Idle
    ∷ answered (Do.Post 0 1 (filled_line 36)) Say.Ok
    ∷ answered_with (Do.Fence 0) ((Seal 1 (ctr 18446744073709551615 2) (line_of (38 ∷ 39 ∷ range_with_len 32 4 ++ range_with_len 44 4 ++ range_with_len 40 4 ++ range_with_len 52 4 ++ range_with_len 48 4 ++ range_with_len 60 4 ++ range_with_len 56 4 ++ range_with_len 4 4 ++ range_with_len 0 4 ++ range_with_len 12 4 ++ range_with_len 8 4 ++ range_with_len 20 4 ++ range_with_len 16 4 ++ range_with_len 28 4 ++ range_with_len 24 4 ++ 100 ∷ 101 ∷ [])) (short_tag 19)) ∷ []) (Say.Fenced 1 6)
    ∷ answered (Do.Peek 266) (Say.Raw (line_of (replicate 15 0 ++ 120 ∷ replicate 15 0 ++ 57 ∷ replicate 15 0 ++ 122 ∷ replicate 15 0 ++ 59 ∷ [])))
    ∷ answered (Do.Fence 0) (Say.Fenced 0 0)
    ∷ answered (Do.Read 0 64) (Say.Got (filled_line 0) 1)
    ∷ answered (Do.Post 0 64 (filled_line 189)) Say.Ok
    ∷ answered (Do.Post 1 1 (filled_line 124)) Say.Ok
    ∷ answered (Do.Peek 181) (Say.Raw (line_of (range_with_len 180 64)))
    ∷ answered (Do.Post 1 0 (filled_line 42)) Say.Ok
    ∷ answered Do.Flush (Say.Flushed 0 1)
    ∷ answered (Do.Peek 148) (Say.Raw (line_of (range_with_len 147 64)))
    ∷ answered (Do.Part 0 0 58 5 (line_of (replicate 5 13 ++ replicate 59 0))) Say.Ok
    ∷ answered (Do.Part 1 64 16 4 (line_of (replicate 4 155 ++ replicate 60 0))) Say.Ok
    ∷ answered (Do.Post 1 1 (filled_line 226)) Say.Ok
    ∷ answered Do.On Say.Already
    ∷ answered_with (Do.Drain 1) ((Seal 1 (ctr 18446744073709551615 3) (line_of (127 ∷ range_with_len 120 4 ++ range_with_len 116 4 ++ range_with_len 112 4 ++ range_with_len 108 4 ++ range_with_len 104 4 ++ range_with_len 100 4 ++ range_with_len 96 4 ++ range_with_len 92 4 ++ range_with_len 88 4 ++ range_with_len 84 4 ++ range_with_len 80 4 ++ range_with_len 76 4 ++ range_with_len 72 4 ++ range_with_len 68 4 ++ range_with_len 64 4 ++ 60 ∷ 61 ∷ 62 ∷ [])) (short_tag 82)) ∷ []) (Say.Drained 4)
    ∷ answered_with (Do.Drain 0) ((Seal 64 (ctr 18446744073709551615 1) (line_of (253 ∷ 252 ∷ 255 ∷ 254 ∷ 249 ∷ 248 ∷ 251 ∷ 250 ∷ 245 ∷ 244 ∷ 247 ∷ 246 ∷ 241 ∷ 240 ∷ 243 ∷ 242 ∷ 237 ∷ 236 ∷ 239 ∷ 238 ∷ 233 ∷ 232 ∷ 235 ∷ 234 ∷ 229 ∷ 228 ∷ 231 ∷ 230 ∷ 225 ∷ 224 ∷ 227 ∷ 226 ∷ 221 ∷ 220 ∷ 223 ∷ 222 ∷ 217 ∷ 216 ∷ 219 ∷ 218 ∷ 213 ∷ 212 ∷ 215 ∷ 214 ∷ 209 ∷ 208 ∷ 211 ∷ 210 ∷ 205 ∷ 204 ∷ 207 ∷ 206 ∷ 201 ∷ 200 ∷ 203 ∷ 202 ∷ 197 ∷ 196 ∷ 199 ∷ 198 ∷ 193 ∷ 192 ∷ 195 ∷ 194 ∷ [])) (short_tag 81)) ∷ []) (Say.Drained 6)
    ∷ answered (Do.Read 0 0) (Say.Got (line_of (replicate 58 93 ++ replicate 5 13 ++ 93 ∷ [])) 1)
    ∷ answered (Do.Drain 1) (Say.Spent None 0 0)
    ∷ answered (Do.Peek 162) (Say.Raw (line_of (range_with_len 161 64)))
    ∷ answered (Do.Post 0 1 (filled_line 72)) Say.Ok
    ∷ answered (Do.Fence 0) (Say.Spent (Some 0) 0 0)
    ∷ answered (Do.Read 0 0) (Say.Got (filled_line 93) 0)
    ∷ answered (Do.Post 0 0 (filled_line 211)) Say.Ok
    ∷ answered (Do.Post 0 64 (filled_line 60)) Say.Ok
    ∷ answered (Do.Cut 11) Say.Ok
    ∷ answered (Do.Post 0 0 (filled_line 195)) Say.Ok
    ∷ answered_with (Do.Drain 1) ((Seal 64 (ctr 18446744073709551615 2) (line_of (252 ∷ 255 ∷ 254 ∷ 249 ∷ 248 ∷ 251 ∷ 250 ∷ 245 ∷ 244 ∷ 247 ∷ 246 ∷ 241 ∷ 240 ∷ 243 ∷ 242 ∷ 237 ∷ 202 ∷ 201 ∷ 200 ∷ 207 ∷ 232 ∷ 235 ∷ 234 ∷ 229 ∷ 228 ∷ 231 ∷ 230 ∷ 225 ∷ 224 ∷ 227 ∷ 226 ∷ 221 ∷ 220 ∷ 223 ∷ 222 ∷ 217 ∷ 216 ∷ 219 ∷ 218 ∷ 213 ∷ 212 ∷ 215 ∷ 214 ∷ 209 ∷ 208 ∷ 211 ∷ 210 ∷ 205 ∷ 204 ∷ 207 ∷ 206 ∷ 201 ∷ 200 ∷ 203 ∷ 202 ∷ 197 ∷ 196 ∷ 199 ∷ 198 ∷ 193 ∷ 192 ∷ 195 ∷ 194 ∷ 61 ∷ [])) (short_tag 146)) ∷ []) (Say.Drained 4)
    ∷ answered (Do.Post 0 64 (filled_line 8)) Say.Ok
    ∷ answered (Do.Post 1 0 (filled_line 177)) Say.Ok
    ∷ answered Do.Flush (Say.Flushed 0 1)
    ∷ answered (Do.Post 0 1 (filled_line 228)) Say.Ok
    ∷ answered_with (Do.Drain 0) ((Seal 1 (ctr 18446744073709551615 4) (line_of (range_with_len 76 4 ++ range_with_len 64 8 ++ range_with_len 88 8 ++ range_with_len 80 8 ++ range_with_len 104 8 ++ range_with_len 96 8 ++ range_with_len 120 8 ++ range_with_len 112 8 ++ range_with_len 8 4)) (short_tag 21)) ∷ []) (Say.CutKept None 6)
    ∷ answered Do.Stat (Say.Counts (record { reads = 425; writes = 322; latches = 265; tags = 648; digests = 288 }))
    ∷ answered Do.On (Say.Recovered 253 5 7)
    ∷ []

-- With tampering, 312 commands
abbrev pub rare_4_setup : Setup
rare_4_setup =
    record {
      shape = record { levels = 1; sets = 1; ways = 1; loss = 4; major = 0; persist = 0; shadow = true; durable = false; combines = false };
      formulas = weak;
    }

abbrev pub rare_4 : Trace
rare_4 =
    answered (Do.Post 0 0 (filled_line 125)) Say.Ok
    ∷ answered_with (Do.Drain 0) ((Seal 0 (ctr 0 1) (line_of (124 ∷ 127 ∷ 126 ∷ 121 ∷ 120 ∷ 123 ∷ 122 ∷ 117 ∷ 116 ∷ 119 ∷ 118 ∷ 113 ∷ 112 ∷ 115 ∷ 114 ∷ 109 ∷ 108 ∷ 111 ∷ 110 ∷ 105 ∷ 104 ∷ 107 ∷ 106 ∷ 101 ∷ 100 ∷ 103 ∷ 102 ∷ 97 ∷ 96 ∷ 99 ∷ 98 ∷ 93 ∷ 92 ∷ 95 ∷ 94 ∷ 89 ∷ 88 ∷ 91 ∷ 90 ∷ 85 ∷ 84 ∷ 87 ∷ 86 ∷ 81 ∷ 80 ∷ 83 ∷ 82 ∷ 77 ∷ 76 ∷ 79 ∷ 78 ∷ 73 ∷ 72 ∷ 75 ∷ 74 ∷ 69 ∷ 68 ∷ 71 ∷ 70 ∷ 65 ∷ 64 ∷ 67 ∷ 66 ∷ 61 ∷ [])) (short_tag 81)) ∷ []) (Say.Drained 6)
    ∷ answered (Do.Post 0 0 (filled_line 102)) Say.Ok
    ∷ answered_with (Do.Drain 0) ((Seal 0 (ctr 0 2) (line_of (100 ∷ 101 ∷ 98 ∷ 99 ∷ 96 ∷ 97 ∷ 110 ∷ 111 ∷ 108 ∷ 109 ∷ 106 ∷ 107 ∷ 104 ∷ 105 ∷ 118 ∷ 119 ∷ 116 ∷ 117 ∷ 114 ∷ 115 ∷ 112 ∷ 113 ∷ 126 ∷ 127 ∷ 124 ∷ 125 ∷ 122 ∷ 123 ∷ 120 ∷ 121 ∷ 70 ∷ 71 ∷ 68 ∷ 69 ∷ 66 ∷ 67 ∷ 64 ∷ 65 ∷ 78 ∷ 79 ∷ 76 ∷ 77 ∷ 74 ∷ 75 ∷ 72 ∷ 73 ∷ 86 ∷ 87 ∷ 84 ∷ 85 ∷ 82 ∷ 83 ∷ 80 ∷ 81 ∷ 94 ∷ 95 ∷ 92 ∷ 93 ∷ 90 ∷ 91 ∷ 88 ∷ 89 ∷ 38 ∷ 39 ∷ [])) (short_tag 18)) ∷ []) (Say.Drained 4)
    ∷ answered (Do.Post 0 0 (filled_line 8)) Say.Ok
    ∷ answered_with (Do.Drain 0) ((Seal 0 (ctr 0 3) (line_of (range_with_len 11 5 ++ range_with_len 0 8 ++ range_with_len 24 8 ++ range_with_len 16 8 ++ range_with_len 40 8 ++ range_with_len 32 8 ++ range_with_len 56 8 ++ range_with_len 48 8 ++ 72 ∷ 73 ∷ 74 ∷ [])) (short_tag 83)) ∷ []) (Say.Drained 4)
    ∷ answered (Do.Post 0 0 (filled_line 16)) Say.Ok
    ∷ answered_with (Do.Drain 0) ((Seal 0 (ctr 0 4) (line_of (range_with_len 20 12 ++ range_with_len 0 16 ++ range_with_len 48 16 ++ range_with_len 32 16 ++ range_with_len 80 4)) (short_tag 20)) ∷ []) (Say.Drained 5)
    ∷ answered (Do.Post 0 0 (filled_line 70)) Say.Ok
    ∷ answered_with (Do.Drain 0) ((Seal 0 (ctr 0 5) (line_of (67 ∷ 64 ∷ 65 ∷ 78 ∷ 79 ∷ 76 ∷ 77 ∷ 74 ∷ 75 ∷ 72 ∷ 73 ∷ 86 ∷ 87 ∷ 84 ∷ 85 ∷ 82 ∷ 83 ∷ 80 ∷ 81 ∷ 94 ∷ 95 ∷ 92 ∷ 93 ∷ 90 ∷ 91 ∷ 88 ∷ 89 ∷ 102 ∷ 103 ∷ 100 ∷ 101 ∷ 98 ∷ 99 ∷ 96 ∷ 97 ∷ 110 ∷ 111 ∷ 108 ∷ 109 ∷ 106 ∷ 107 ∷ 104 ∷ 105 ∷ 118 ∷ 119 ∷ 116 ∷ 117 ∷ 114 ∷ 115 ∷ 112 ∷ 113 ∷ 126 ∷ 127 ∷ 124 ∷ 125 ∷ 122 ∷ 123 ∷ 120 ∷ 121 ∷ 6 ∷ 7 ∷ 4 ∷ 5 ∷ 2 ∷ [])) (short_tag 85)) ∷ []) (Say.Drained 4)
    ∷ answered (Do.Post 0 0 (filled_line 72)) Say.Ok
    ∷ answered_with (Do.Drain 0) ((Seal 0 (ctr 0 6) (line_of (78 ∷ 79 ∷ range_with_len 64 8 ++ range_with_len 88 8 ++ range_with_len 80 8 ++ range_with_len 104 8 ++ range_with_len 96 8 ++ range_with_len 120 8 ++ range_with_len 112 8 ++ range_with_len 8 6)) (short_tag 22)) ∷ []) (Say.Drained 4)
    ∷ answered (Do.Post 0 0 (filled_line 44)) Say.Ok
    ∷ answered_with (Do.Drain 0) ((Seal 0 (ctr 0 7) (line_of (43 ∷ range_with_len 36 4 ++ range_with_len 32 4 ++ range_with_len 60 4 ++ range_with_len 56 4 ++ range_with_len 52 4 ++ range_with_len 48 4 ++ range_with_len 12 4 ++ range_with_len 8 4 ++ range_with_len 4 4 ++ range_with_len 0 4 ++ range_with_len 28 4 ++ range_with_len 24 4 ++ range_with_len 20 4 ++ range_with_len 16 4 ++ range_with_len 108 4 ++ 104 ∷ 105 ∷ 106 ∷ [])) (short_tag 87)) ∷ []) (Say.Drained 4)
    ∷ answered (Do.Post 0 0 (filled_line 83)) Say.Ok
    ∷ answered_with (Do.Drain 0) ((Seal 0 (ctr 0 8) (line_of (91 ∷ 90 ∷ 89 ∷ 88 ∷ 95 ∷ 94 ∷ 93 ∷ 92 ∷ 67 ∷ 66 ∷ 65 ∷ 64 ∷ 71 ∷ 70 ∷ 69 ∷ 68 ∷ 75 ∷ 74 ∷ 73 ∷ 72 ∷ 79 ∷ 78 ∷ 77 ∷ 76 ∷ 115 ∷ 114 ∷ 113 ∷ 112 ∷ 119 ∷ 118 ∷ 117 ∷ 116 ∷ 123 ∷ 122 ∷ 121 ∷ 120 ∷ 127 ∷ 126 ∷ 125 ∷ 124 ∷ 99 ∷ 98 ∷ 97 ∷ 96 ∷ 103 ∷ 102 ∷ 101 ∷ 100 ∷ 107 ∷ 106 ∷ 105 ∷ 104 ∷ 111 ∷ 110 ∷ 109 ∷ 108 ∷ 19 ∷ 18 ∷ 17 ∷ 16 ∷ 23 ∷ 22 ∷ 21 ∷ 20 ∷ [])) (short_tag 24)) ∷ []) (Say.Drained 5)
    ∷ answered (Do.Post 0 0 (filled_line 150)) Say.Ok
    ∷ answered_with (Do.Drain 0) ((Seal 0 (ctr 0 9) (line_of (159 ∷ 156 ∷ 157 ∷ 154 ∷ 155 ∷ 152 ∷ 153 ∷ 134 ∷ 135 ∷ 132 ∷ 133 ∷ 130 ∷ 131 ∷ 128 ∷ 129 ∷ 142 ∷ 143 ∷ 140 ∷ 141 ∷ 138 ∷ 139 ∷ 136 ∷ 137 ∷ 182 ∷ 183 ∷ 180 ∷ 181 ∷ 178 ∷ 179 ∷ 176 ∷ 177 ∷ 190 ∷ 191 ∷ 188 ∷ 189 ∷ 186 ∷ 187 ∷ 184 ∷ 185 ∷ 166 ∷ 167 ∷ 164 ∷ 165 ∷ 162 ∷ 163 ∷ 160 ∷ 161 ∷ 174 ∷ 175 ∷ 172 ∷ 173 ∷ 170 ∷ 171 ∷ 168 ∷ 169 ∷ 214 ∷ 215 ∷ 212 ∷ 213 ∷ 210 ∷ 211 ∷ 208 ∷ 209 ∷ 222 ∷ [])) (short_tag 89)) ∷ []) (Say.Drained 4)
    ∷ answered (Do.Post 0 0 (filled_line 56)) Say.Ok
    ∷ answered_with (Do.Drain 0) ((Seal 0 (ctr 0 10) (line_of (range_with_len 50 6 ++ range_with_len 40 8 ++ range_with_len 32 8 ++ range_with_len 24 8 ++ range_with_len 16 8 ++ range_with_len 8 8 ++ range_with_len 0 8 ++ range_with_len 120 8 ++ 112 ∷ 113 ∷ [])) (short_tag 26)) ∷ []) (Say.Drained 4)
    ∷ answered (Do.Post 0 0 (filled_line 183)) Say.Ok
    ∷ answered_with (Do.Drain 0) ((Seal 0 (ctr 0 11) (line_of (188 ∷ 187 ∷ 186 ∷ 185 ∷ 184 ∷ 167 ∷ 166 ∷ 165 ∷ 164 ∷ 163 ∷ 162 ∷ 161 ∷ 160 ∷ 175 ∷ 174 ∷ 173 ∷ 172 ∷ 171 ∷ 170 ∷ 169 ∷ 168 ∷ 151 ∷ 150 ∷ 149 ∷ 148 ∷ 147 ∷ 146 ∷ 145 ∷ 144 ∷ 159 ∷ 158 ∷ 157 ∷ 156 ∷ 155 ∷ 154 ∷ 153 ∷ 152 ∷ 135 ∷ 134 ∷ 133 ∷ 132 ∷ 131 ∷ 130 ∷ 129 ∷ 128 ∷ 143 ∷ 142 ∷ 141 ∷ 140 ∷ 139 ∷ 138 ∷ 137 ∷ 136 ∷ 247 ∷ 246 ∷ 245 ∷ 244 ∷ 243 ∷ 242 ∷ 241 ∷ 240 ∷ 255 ∷ 254 ∷ 253 ∷ [])) (short_tag 91)) ∷ []) (Say.Drained 4)
    ∷ answered (Do.Post 0 0 (filled_line 8)) Say.Ok
    ∷ answered_with (Do.Drain 0) ((Seal 0 (ctr 0 12) (line_of (range_with_len 4 4 ++ range_with_len 24 8 ++ range_with_len 16 8 ++ range_with_len 40 8 ++ range_with_len 32 8 ++ range_with_len 56 8 ++ range_with_len 48 8 ++ range_with_len 72 8 ++ range_with_len 64 4)) (short_tag 28)) ∷ []) (Say.Drained 5)
    ∷ answered (Do.Post 0 0 (filled_line 170)) Say.Ok
    ∷ answered_with (Do.Drain 0) ((Seal 0 (ctr 0 13) (line_of (167 ∷ 164 ∷ 165 ∷ 186 ∷ 187 ∷ 184 ∷ 185 ∷ 190 ∷ 191 ∷ 188 ∷ 189 ∷ 178 ∷ 179 ∷ 176 ∷ 177 ∷ 182 ∷ 183 ∷ 180 ∷ 181 ∷ 138 ∷ 139 ∷ 136 ∷ 137 ∷ 142 ∷ 143 ∷ 140 ∷ 141 ∷ 130 ∷ 131 ∷ 128 ∷ 129 ∷ 134 ∷ 135 ∷ 132 ∷ 133 ∷ 154 ∷ 155 ∷ 152 ∷ 153 ∷ 158 ∷ 159 ∷ 156 ∷ 157 ∷ 146 ∷ 147 ∷ 144 ∷ 145 ∷ 150 ∷ 151 ∷ 148 ∷ 149 ∷ 234 ∷ 235 ∷ 232 ∷ 233 ∷ 238 ∷ 239 ∷ 236 ∷ 237 ∷ 226 ∷ 227 ∷ 224 ∷ 225 ∷ 230 ∷ [])) (short_tag 93)) ∷ []) (Say.Drained 4)
    ∷ answered (Do.Post 0 0 (filled_line 72)) Say.Ok
    ∷ answered_with (Do.Drain 0) ((Seal 0 (ctr 0 14) (line_of (70 ∷ 71 ∷ range_with_len 88 8 ++ range_with_len 80 8 ++ range_with_len 104 8 ++ range_with_len 96 8 ++ range_with_len 120 8 ++ range_with_len 112 8 ++ range_with_len 8 8 ++ range_with_len 0 6)) (short_tag 30)) ∷ []) (Say.Drained 4)
    ∷ answered (Do.Post 0 0 (filled_line 196)) Say.Ok
    ∷ answered_with (Do.Drain 0) ((Seal 0 (ctr 0 15) (line_of (203 ∷ range_with_len 212 4 ++ range_with_len 208 4 ++ range_with_len 220 4 ++ range_with_len 216 4 ++ range_with_len 228 4 ++ range_with_len 224 4 ++ range_with_len 236 4 ++ range_with_len 232 4 ++ range_with_len 244 4 ++ range_with_len 240 4 ++ range_with_len 252 4 ++ range_with_len 248 4 ++ range_with_len 132 4 ++ range_with_len 128 4 ++ range_with_len 140 4 ++ 136 ∷ 137 ∷ 138 ∷ [])) (short_tag 95)) ∷ []) (Say.Drained 4)
    ∷ answered (Do.Post 0 0 (filled_line 111)) Say.Ok
    ∷ answered_with (Do.Drain 0) ((Seal 0 (ctr 0 16) (line_of (127 ∷ 126 ∷ 125 ∷ 124 ∷ 123 ∷ 122 ∷ 121 ∷ 120 ∷ 119 ∷ 118 ∷ 117 ∷ 116 ∷ 115 ∷ 114 ∷ 113 ∷ 112 ∷ 79 ∷ 78 ∷ 77 ∷ 76 ∷ 75 ∷ 74 ∷ 73 ∷ 72 ∷ 71 ∷ 70 ∷ 69 ∷ 68 ∷ 67 ∷ 66 ∷ 65 ∷ 64 ∷ 95 ∷ 94 ∷ 93 ∷ 92 ∷ 91 ∷ 90 ∷ 89 ∷ 88 ∷ 87 ∷ 86 ∷ 85 ∷ 84 ∷ 83 ∷ 82 ∷ 81 ∷ 80 ∷ 47 ∷ 46 ∷ 45 ∷ 44 ∷ 43 ∷ 42 ∷ 41 ∷ 40 ∷ 39 ∷ 38 ∷ 37 ∷ 36 ∷ 35 ∷ 34 ∷ 33 ∷ 32 ∷ [])) (short_tag 0)) ∷ []) (Say.Drained 5)
    ∷ answered (Do.Post 0 0 (filled_line 61)) Say.Ok
    ∷ answered_with (Do.Drain 0) ((Seal 0 (ctr 0 17) (line_of (44 ∷ 47 ∷ 46 ∷ 41 ∷ 40 ∷ 43 ∷ 42 ∷ 37 ∷ 36 ∷ 39 ∷ 38 ∷ 33 ∷ 32 ∷ 35 ∷ 34 ∷ 29 ∷ 28 ∷ 31 ∷ 30 ∷ 25 ∷ 24 ∷ 27 ∷ 26 ∷ 21 ∷ 20 ∷ 23 ∷ 22 ∷ 17 ∷ 16 ∷ 19 ∷ 18 ∷ 13 ∷ 12 ∷ 15 ∷ 14 ∷ 9 ∷ 8 ∷ 11 ∷ 10 ∷ 5 ∷ 4 ∷ 7 ∷ 6 ∷ 1 ∷ 0 ∷ 3 ∷ 2 ∷ 125 ∷ 124 ∷ 127 ∷ 126 ∷ 121 ∷ 120 ∷ 123 ∷ 122 ∷ 117 ∷ 116 ∷ 119 ∷ 118 ∷ 113 ∷ 112 ∷ 115 ∷ 114 ∷ 109 ∷ [])) (short_tag 65)) ∷ []) (Say.Drained 4)
    ∷ answered (Do.Post 0 0 (filled_line 115)) Say.Ok
    ∷ answered_with (Do.Drain 0) ((Seal 0 (ctr 0 18) (line_of (97 ∷ 96 ∷ 103 ∷ 102 ∷ 101 ∷ 100 ∷ 107 ∷ 106 ∷ 105 ∷ 104 ∷ 111 ∷ 110 ∷ 109 ∷ 108 ∷ 83 ∷ 82 ∷ 81 ∷ 80 ∷ 87 ∷ 86 ∷ 85 ∷ 84 ∷ 91 ∷ 90 ∷ 89 ∷ 88 ∷ 95 ∷ 94 ∷ 93 ∷ 92 ∷ 67 ∷ 66 ∷ 65 ∷ 64 ∷ 71 ∷ 70 ∷ 69 ∷ 68 ∷ 75 ∷ 74 ∷ 73 ∷ 72 ∷ 79 ∷ 78 ∷ 77 ∷ 76 ∷ 51 ∷ 50 ∷ 49 ∷ 48 ∷ 55 ∷ 54 ∷ 53 ∷ 52 ∷ 59 ∷ 58 ∷ 57 ∷ 56 ∷ 63 ∷ 62 ∷ 61 ∷ 60 ∷ 35 ∷ 34 ∷ [])) (short_tag 2)) ∷ []) (Say.Drained 4)
    ∷ answered (Do.Post 0 0 (filled_line 18)) Say.Ok
    ∷ answered_with (Do.Drain 0) ((Seal 0 (ctr 0 19) (line_of (1 ∷ 6 ∷ 7 ∷ 4 ∷ 5 ∷ 10 ∷ 11 ∷ 8 ∷ 9 ∷ 14 ∷ 15 ∷ 12 ∷ 13 ∷ 50 ∷ 51 ∷ 48 ∷ 49 ∷ 54 ∷ 55 ∷ 52 ∷ 53 ∷ 58 ∷ 59 ∷ 56 ∷ 57 ∷ 62 ∷ 63 ∷ 60 ∷ 61 ∷ 34 ∷ 35 ∷ 32 ∷ 33 ∷ 38 ∷ 39 ∷ 36 ∷ 37 ∷ 42 ∷ 43 ∷ 40 ∷ 41 ∷ 46 ∷ 47 ∷ 44 ∷ 45 ∷ 82 ∷ 83 ∷ 80 ∷ 81 ∷ 86 ∷ 87 ∷ 84 ∷ 85 ∷ 90 ∷ 91 ∷ 88 ∷ 89 ∷ 94 ∷ 95 ∷ 92 ∷ 93 ∷ 66 ∷ 67 ∷ 64 ∷ [])) (short_tag 67)) ∷ []) (Say.Drained 4)
    ∷ answered (Do.Post 0 0 (filled_line 248)) Say.Ok
    ∷ answered_with (Do.Drain 0) ((Seal 0 (ctr 0 20) (line_of (range_with_len 236 4 ++ range_with_len 224 8 ++ range_with_len 216 8 ++ range_with_len 208 8 ++ range_with_len 200 8 ++ range_with_len 192 8 ++ range_with_len 184 8 ++ range_with_len 176 8 ++ range_with_len 168 4)) (short_tag 4)) ∷ []) (Say.Drained 5)
    ∷ answered (Do.Post 0 0 (filled_line 75)) Say.Ok
    ∷ answered_with (Do.Drain 0) ((Seal 0 (ctr 0 21) (line_of (94 ∷ 93 ∷ 92 ∷ 83 ∷ 82 ∷ 81 ∷ 80 ∷ 87 ∷ 86 ∷ 85 ∷ 84 ∷ 107 ∷ 106 ∷ 105 ∷ 104 ∷ 111 ∷ 110 ∷ 109 ∷ 108 ∷ 99 ∷ 98 ∷ 97 ∷ 96 ∷ 103 ∷ 102 ∷ 101 ∷ 100 ∷ 123 ∷ 122 ∷ 121 ∷ 120 ∷ 127 ∷ 126 ∷ 125 ∷ 124 ∷ 115 ∷ 114 ∷ 113 ∷ 112 ∷ 119 ∷ 118 ∷ 117 ∷ 116 ∷ 11 ∷ 10 ∷ 9 ∷ 8 ∷ 15 ∷ 14 ∷ 13 ∷ 12 ∷ 3 ∷ 2 ∷ 1 ∷ 0 ∷ 7 ∷ 6 ∷ 5 ∷ 4 ∷ 27 ∷ 26 ∷ 25 ∷ 24 ∷ 31 ∷ [])) (short_tag 69)) ∷ []) (Say.Drained 4)
    ∷ answered (Do.Post 0 0 (filled_line 192)) Say.Ok
    ∷ answered_with (Do.Drain 0) ((Seal 0 (ctr 0 22) (line_of (range_with_len 214 42 ++ range_with_len 128 22)) (short_tag 6)) ∷ []) (Say.Drained 4)
    ∷ answered (Do.Post 0 0 (filled_line 155)) Say.Ok
    ∷ answered_with (Do.Drain 0) ((Seal 0 (ctr 0 23) (line_of (140 ∷ 131 ∷ 130 ∷ 129 ∷ 128 ∷ 135 ∷ 134 ∷ 133 ∷ 132 ∷ 187 ∷ 186 ∷ 185 ∷ 184 ∷ 191 ∷ 190 ∷ 189 ∷ 188 ∷ 179 ∷ 178 ∷ 177 ∷ 176 ∷ 183 ∷ 182 ∷ 181 ∷ 180 ∷ 171 ∷ 170 ∷ 169 ∷ 168 ∷ 175 ∷ 174 ∷ 173 ∷ 172 ∷ 163 ∷ 162 ∷ 161 ∷ 160 ∷ 167 ∷ 166 ∷ 165 ∷ 164 ∷ 219 ∷ 218 ∷ 217 ∷ 216 ∷ 223 ∷ 222 ∷ 221 ∷ 220 ∷ 211 ∷ 210 ∷ 209 ∷ 208 ∷ 215 ∷ 214 ∷ 213 ∷ 212 ∷ 203 ∷ 202 ∷ 201 ∷ 200 ∷ 207 ∷ 206 ∷ 205 ∷ [])) (short_tag 71)) ∷ []) (Say.Drained 4)
    ∷ answered (Do.Post 0 0 (filled_line 171)) Say.Ok
    ∷ answered_with (Do.Drain 0) ((Seal 0 (ctr 0 24) (line_of (179 ∷ 178 ∷ 177 ∷ 176 ∷ 183 ∷ 182 ∷ 181 ∷ 180 ∷ 139 ∷ 138 ∷ 137 ∷ 136 ∷ 143 ∷ 142 ∷ 141 ∷ 140 ∷ 131 ∷ 130 ∷ 129 ∷ 128 ∷ 135 ∷ 134 ∷ 133 ∷ 132 ∷ 155 ∷ 154 ∷ 153 ∷ 152 ∷ 159 ∷ 158 ∷ 157 ∷ 156 ∷ 147 ∷ 146 ∷ 145 ∷ 144 ∷ 151 ∷ 150 ∷ 149 ∷ 148 ∷ 235 ∷ 234 ∷ 233 ∷ 232 ∷ 239 ∷ 238 ∷ 237 ∷ 236 ∷ 227 ∷ 226 ∷ 225 ∷ 224 ∷ 231 ∷ 230 ∷ 229 ∷ 228 ∷ 251 ∷ 250 ∷ 249 ∷ 248 ∷ 255 ∷ 254 ∷ 253 ∷ 252 ∷ [])) (short_tag 8)) ∷ []) (Say.Drained 5)
    ∷ answered (Do.Post 0 0 (filled_line 190)) Say.Ok
    ∷ answered_with (Do.Drain 0) ((Seal 0 (ctr 0 25) (line_of (167 ∷ 164 ∷ 165 ∷ 162 ∷ 163 ∷ 160 ∷ 161 ∷ 158 ∷ 159 ∷ 156 ∷ 157 ∷ 154 ∷ 155 ∷ 152 ∷ 153 ∷ 150 ∷ 151 ∷ 148 ∷ 149 ∷ 146 ∷ 147 ∷ 144 ∷ 145 ∷ 142 ∷ 143 ∷ 140 ∷ 141 ∷ 138 ∷ 139 ∷ 136 ∷ 137 ∷ 134 ∷ 135 ∷ 132 ∷ 133 ∷ 130 ∷ 131 ∷ 128 ∷ 129 ∷ 254 ∷ 255 ∷ 252 ∷ 253 ∷ 250 ∷ 251 ∷ 248 ∷ 249 ∷ 246 ∷ 247 ∷ 244 ∷ 245 ∷ 242 ∷ 243 ∷ 240 ∷ 241 ∷ 238 ∷ 239 ∷ 236 ∷ 237 ∷ 234 ∷ 235 ∷ 232 ∷ 233 ∷ 230 ∷ [])) (short_tag 73)) ∷ []) (Say.Drained 4)
    ∷ answered (Do.Post 0 0 (filled_line 155)) Say.Ok
    ∷ answered_with (Do.Drain 0) ((Seal 0 (ctr 0 26) (line_of (129 ∷ 128 ∷ 135 ∷ 134 ∷ 133 ∷ 132 ∷ 187 ∷ 186 ∷ 185 ∷ 184 ∷ 191 ∷ 190 ∷ 189 ∷ 188 ∷ 179 ∷ 178 ∷ 177 ∷ 176 ∷ 183 ∷ 182 ∷ 181 ∷ 180 ∷ 171 ∷ 170 ∷ 169 ∷ 168 ∷ 175 ∷ 174 ∷ 173 ∷ 172 ∷ 163 ∷ 162 ∷ 161 ∷ 160 ∷ 167 ∷ 166 ∷ 165 ∷ 164 ∷ 219 ∷ 218 ∷ 217 ∷ 216 ∷ 223 ∷ 222 ∷ 221 ∷ 220 ∷ 211 ∷ 210 ∷ 209 ∷ 208 ∷ 215 ∷ 214 ∷ 213 ∷ 212 ∷ 203 ∷ 202 ∷ 201 ∷ 200 ∷ 207 ∷ 206 ∷ 205 ∷ 204 ∷ 195 ∷ 194 ∷ [])) (short_tag 10)) ∷ []) (Say.Drained 4)
    ∷ answered (Do.Post 0 0 (filled_line 56)) Say.Ok
    ∷ answered_with (Do.Drain 0) ((Seal 0 (ctr 0 27) (line_of (range_with_len 35 5 ++ range_with_len 24 8 ++ range_with_len 16 8 ++ range_with_len 8 8 ++ range_with_len 0 8 ++ range_with_len 120 8 ++ range_with_len 112 8 ++ range_with_len 104 8 ++ 96 ∷ 97 ∷ 98 ∷ [])) (short_tag 75)) ∷ []) (Say.Drained 4)
    ∷ answered (Do.Post 0 0 (filled_line 80)) Say.Ok
    ∷ answered_with (Do.Drain 0) ((Seal 0 (ctr 0 28) (line_of (range_with_len 76 4 ++ range_with_len 112 16 ++ range_with_len 96 16 ++ range_with_len 16 16 ++ range_with_len 0 12)) (short_tag 12)) ∷ []) (Say.Drained 5)
    ∷ answered (Do.Post 0 0 (filled_line 62)) Say.Ok
    ∷ answered_with (Do.Drain 0) ((Seal 0 (ctr 0 29) (line_of (35 ∷ 32 ∷ 33 ∷ 30 ∷ 31 ∷ 28 ∷ 29 ∷ 26 ∷ 27 ∷ 24 ∷ 25 ∷ 22 ∷ 23 ∷ 20 ∷ 21 ∷ 18 ∷ 19 ∷ 16 ∷ 17 ∷ 14 ∷ 15 ∷ 12 ∷ 13 ∷ 10 ∷ 11 ∷ 8 ∷ 9 ∷ 6 ∷ 7 ∷ 4 ∷ 5 ∷ 2 ∷ 3 ∷ 0 ∷ 1 ∷ 126 ∷ 127 ∷ 124 ∷ 125 ∷ 122 ∷ 123 ∷ 120 ∷ 121 ∷ 118 ∷ 119 ∷ 116 ∷ 117 ∷ 114 ∷ 115 ∷ 112 ∷ 113 ∷ 110 ∷ 111 ∷ 108 ∷ 109 ∷ 106 ∷ 107 ∷ 104 ∷ 105 ∷ 102 ∷ 103 ∷ 100 ∷ 101 ∷ 98 ∷ [])) (short_tag 77)) ∷ []) (Say.Drained 4)
    ∷ answered (Do.Post 0 0 (filled_line 39)) Say.Ok
    ∷ answered_with (Do.Drain 0) ((Seal 0 (ctr 0 30) (line_of (57 ∷ 56 ∷ 7 ∷ 6 ∷ 5 ∷ 4 ∷ 3 ∷ 2 ∷ 1 ∷ 0 ∷ 15 ∷ 14 ∷ 13 ∷ 12 ∷ 11 ∷ 10 ∷ 9 ∷ 8 ∷ 23 ∷ 22 ∷ 21 ∷ 20 ∷ 19 ∷ 18 ∷ 17 ∷ 16 ∷ 31 ∷ 30 ∷ 29 ∷ 28 ∷ 27 ∷ 26 ∷ 25 ∷ 24 ∷ 103 ∷ 102 ∷ 101 ∷ 100 ∷ 99 ∷ 98 ∷ 97 ∷ 96 ∷ 111 ∷ 110 ∷ 109 ∷ 108 ∷ 107 ∷ 106 ∷ 105 ∷ 104 ∷ 119 ∷ 118 ∷ 117 ∷ 116 ∷ 115 ∷ 114 ∷ 113 ∷ 112 ∷ 127 ∷ 126 ∷ 125 ∷ 124 ∷ 123 ∷ 122 ∷ [])) (short_tag 14)) ∷ []) (Say.Drained 4)
    ∷ answered (Do.Post 0 0 (filled_line 183)) Say.Ok
    ∷ answered_with (Do.Drain 0) ((Seal 0 (ctr 0 31) (line_of (168 ∷ 151 ∷ 150 ∷ 149 ∷ 148 ∷ 147 ∷ 146 ∷ 145 ∷ 144 ∷ 159 ∷ 158 ∷ 157 ∷ 156 ∷ 155 ∷ 154 ∷ 153 ∷ 152 ∷ 135 ∷ 134 ∷ 133 ∷ 132 ∷ 131 ∷ 130 ∷ 129 ∷ 128 ∷ 143 ∷ 142 ∷ 141 ∷ 140 ∷ 139 ∷ 138 ∷ 137 ∷ 136 ∷ 247 ∷ 246 ∷ 245 ∷ 244 ∷ 243 ∷ 242 ∷ 241 ∷ 240 ∷ 255 ∷ 254 ∷ 253 ∷ 252 ∷ 251 ∷ 250 ∷ 249 ∷ 248 ∷ 231 ∷ 230 ∷ 229 ∷ 228 ∷ 227 ∷ 226 ∷ 225 ∷ 224 ∷ 239 ∷ 238 ∷ 237 ∷ 236 ∷ 235 ∷ 234 ∷ 233 ∷ [])) (short_tag 79)) ∷ []) (Say.Drained 4)
    ∷ answered (Do.Post 0 0 (filled_line 16)) Say.Ok
    ∷ answered_with (Do.Drain 0) ((Seal 0 (ctr 0 32) (line_of (range_with_len 48 16 ++ range_with_len 32 16 ++ range_with_len 80 16 ++ range_with_len 64 16)) (short_tag 48)) ∷ []) (Say.Drained 5)
    ∷ answered (Do.Post 0 0 (filled_line 165)) Say.Ok
    ∷ answered_with (Do.Drain 0) ((Seal 0 (ctr 0 33) (line_of (132 ∷ 135 ∷ 134 ∷ 129 ∷ 128 ∷ 131 ∷ 130 ∷ 141 ∷ 140 ∷ 143 ∷ 142 ∷ 137 ∷ 136 ∷ 139 ∷ 138 ∷ 149 ∷ 148 ∷ 151 ∷ 150 ∷ 145 ∷ 144 ∷ 147 ∷ 146 ∷ 157 ∷ 156 ∷ 159 ∷ 158 ∷ 153 ∷ 152 ∷ 155 ∷ 154 ∷ 229 ∷ 228 ∷ 231 ∷ 230 ∷ 225 ∷ 224 ∷ 227 ∷ 226 ∷ 237 ∷ 236 ∷ 239 ∷ 238 ∷ 233 ∷ 232 ∷ 235 ∷ 234 ∷ 245 ∷ 244 ∷ 247 ∷ 246 ∷ 241 ∷ 240 ∷ 243 ∷ 242 ∷ 253 ∷ 252 ∷ 255 ∷ 254 ∷ 249 ∷ 248 ∷ 251 ∷ 250 ∷ 197 ∷ [])) (short_tag 113)) ∷ []) (Say.Drained 4)
    ∷ answered (Do.Post 0 0 (filled_line 252)) Say.Ok
    ∷ answered_with (Do.Drain 0) ((Seal 0 (ctr 0 34) (line_of (222 ∷ 223 ∷ range_with_len 216 4 ++ range_with_len 212 4 ++ range_with_len 208 4 ++ range_with_len 204 4 ++ range_with_len 200 4 ++ range_with_len 196 4 ++ range_with_len 192 4 ++ range_with_len 188 4 ++ range_with_len 184 4 ++ range_with_len 180 4 ++ range_with_len 176 4 ++ range_with_len 172 4 ++ range_with_len 168 4 ++ range_with_len 164 4 ++ range_with_len 160 4 ++ 156 ∷ 157 ∷ [])) (short_tag 50)) ∷ []) (Say.Drained 4)
    ∷ answered (Do.Post 0 0 (filled_line 244)) Say.Ok
    ∷ answered_with (Do.Drain 0) ((Seal 0 (ctr 0 35) (line_of (215 ∷ range_with_len 208 4 ++ range_with_len 220 4 ++ range_with_len 216 4 ++ range_with_len 196 4 ++ range_with_len 192 4 ++ range_with_len 204 4 ++ range_with_len 200 4 ++ range_with_len 180 4 ++ range_with_len 176 4 ++ range_with_len 188 4 ++ range_with_len 184 4 ++ range_with_len 164 4 ++ range_with_len 160 4 ++ range_with_len 172 4 ++ range_with_len 168 4 ++ 148 ∷ 149 ∷ 150 ∷ [])) (short_tag 115)) ∷ []) (Say.Drained 4)
    ∷ answered (Do.Post 0 0 (filled_line 79)) Say.Ok
    ∷ answered_with (Do.Drain 0) ((Seal 0 (ctr 0 36) (line_of (107 ∷ 106 ∷ 105 ∷ 104 ∷ 103 ∷ 102 ∷ 101 ∷ 100 ∷ 99 ∷ 98 ∷ 97 ∷ 96 ∷ 127 ∷ 126 ∷ 125 ∷ 124 ∷ 123 ∷ 122 ∷ 121 ∷ 120 ∷ 119 ∷ 118 ∷ 117 ∷ 116 ∷ 115 ∷ 114 ∷ 113 ∷ 112 ∷ 15 ∷ 14 ∷ 13 ∷ 12 ∷ 11 ∷ 10 ∷ 9 ∷ 8 ∷ 7 ∷ 6 ∷ 5 ∷ 4 ∷ 3 ∷ 2 ∷ 1 ∷ 0 ∷ 31 ∷ 30 ∷ 29 ∷ 28 ∷ 27 ∷ 26 ∷ 25 ∷ 24 ∷ 23 ∷ 22 ∷ 21 ∷ 20 ∷ 19 ∷ 18 ∷ 17 ∷ 16 ∷ 47 ∷ 46 ∷ 45 ∷ 44 ∷ [])) (short_tag 52)) ∷ []) (Say.Drained 5)
    ∷ answered (Do.Post 0 0 (filled_line 172)) Say.Ok
    ∷ answered_with (Do.Drain 0) ((Seal 0 (ctr 0 37) (line_of (137 ∷ 138 ∷ 139 ∷ range_with_len 132 4 ++ range_with_len 128 4 ++ range_with_len 156 4 ++ range_with_len 152 4 ++ range_with_len 148 4 ++ range_with_len 144 4 ++ range_with_len 236 4 ++ range_with_len 232 4 ++ range_with_len 228 4 ++ range_with_len 224 4 ++ range_with_len 252 4 ++ range_with_len 248 4 ++ range_with_len 244 4 ++ range_with_len 240 4 ++ range_with_len 204 4 ++ 200 ∷ [])) (short_tag 117)) ∷ []) (Say.Drained 4)
    ∷ answered (Do.Post 0 0 (filled_line 212)) Say.Ok
    ∷ answered_with (Do.Drain 0) ((Seal 0 (ctr 0 38) (line_of (242 ∷ 243 ∷ range_with_len 252 4 ++ range_with_len 248 4 ++ range_with_len 228 4 ++ range_with_len 224 4 ++ range_with_len 236 4 ++ range_with_len 232 4 ++ range_with_len 148 4 ++ range_with_len 144 4 ++ range_with_len 156 4 ++ range_with_len 152 4 ++ range_with_len 132 4 ++ range_with_len 128 4 ++ range_with_len 140 4 ++ range_with_len 136 4 ++ range_with_len 180 4 ++ 176 ∷ 177 ∷ [])) (short_tag 54)) ∷ []) (Say.Drained 4)
    ∷ answered (Do.Post 0 0 (filled_line 76)) Say.Ok
    ∷ answered_with (Do.Drain 0) ((Seal 0 (ctr 0 39) (line_of (107 ∷ range_with_len 100 4 ++ range_with_len 96 4 ++ range_with_len 124 4 ++ range_with_len 120 4 ++ range_with_len 116 4 ++ range_with_len 112 4 ++ range_with_len 12 4 ++ range_with_len 8 4 ++ range_with_len 4 4 ++ range_with_len 0 4 ++ range_with_len 28 4 ++ range_with_len 24 4 ++ range_with_len 20 4 ++ range_with_len 16 4 ++ range_with_len 44 4 ++ 40 ∷ 41 ∷ 42 ∷ [])) (short_tag 119)) ∷ []) (Say.Drained 4)
    ∷ answered (Do.Post 0 0 (filled_line 111)) Say.Ok
    ∷ answered_with (Do.Drain 0) ((Seal 0 (ctr 0 40) (line_of (71 ∷ 70 ∷ 69 ∷ 68 ∷ 67 ∷ 66 ∷ 65 ∷ 64 ∷ 95 ∷ 94 ∷ 93 ∷ 92 ∷ 91 ∷ 90 ∷ 89 ∷ 88 ∷ 87 ∷ 86 ∷ 85 ∷ 84 ∷ 83 ∷ 82 ∷ 81 ∷ 80 ∷ 47 ∷ 46 ∷ 45 ∷ 44 ∷ 43 ∷ 42 ∷ 41 ∷ 40 ∷ 39 ∷ 38 ∷ 37 ∷ 36 ∷ 35 ∷ 34 ∷ 33 ∷ 32 ∷ 63 ∷ 62 ∷ 61 ∷ 60 ∷ 59 ∷ 58 ∷ 57 ∷ 56 ∷ 55 ∷ 54 ∷ 53 ∷ 52 ∷ 51 ∷ 50 ∷ 49 ∷ 48 ∷ 15 ∷ 14 ∷ 13 ∷ 12 ∷ 11 ∷ 10 ∷ 9 ∷ 8 ∷ [])) (short_tag 56)) ∷ []) (Say.Drained 5)
    ∷ answered (Do.Post 0 0 (filled_line 65)) Say.Ok
    ∷ answered_with (Do.Drain 0) ((Seal 0 (ctr 0 41) (line_of (104 ∷ 107 ∷ 106 ∷ 109 ∷ 108 ∷ 111 ∷ 110 ∷ 113 ∷ 112 ∷ 115 ∷ 114 ∷ 117 ∷ 116 ∷ 119 ∷ 118 ∷ 121 ∷ 120 ∷ 123 ∷ 122 ∷ 125 ∷ 124 ∷ 127 ∷ 126 ∷ 1 ∷ 0 ∷ 3 ∷ 2 ∷ 5 ∷ 4 ∷ 7 ∷ 6 ∷ 9 ∷ 8 ∷ 11 ∷ 10 ∷ 13 ∷ 12 ∷ 15 ∷ 14 ∷ 17 ∷ 16 ∷ 19 ∷ 18 ∷ 21 ∷ 20 ∷ 23 ∷ 22 ∷ 25 ∷ 24 ∷ 27 ∷ 26 ∷ 29 ∷ 28 ∷ 31 ∷ 30 ∷ 33 ∷ 32 ∷ 35 ∷ 34 ∷ 37 ∷ 36 ∷ 39 ∷ 38 ∷ 41 ∷ [])) (short_tag 121)) ∷ []) (Say.Drained 4)
    ∷ answered (Do.Post 0 0 (filled_line 6)) Say.Ok
    ∷ answered_with (Do.Drain 0) ((Seal 0 (ctr 0 42) (line_of (44 ∷ 45 ∷ 42 ∷ 43 ∷ 40 ∷ 41 ∷ 54 ∷ 55 ∷ 52 ∷ 53 ∷ 50 ∷ 51 ∷ 48 ∷ 49 ∷ 62 ∷ 63 ∷ 60 ∷ 61 ∷ 58 ∷ 59 ∷ 56 ∷ 57 ∷ 70 ∷ 71 ∷ 68 ∷ 69 ∷ 66 ∷ 67 ∷ 64 ∷ 65 ∷ 78 ∷ 79 ∷ 76 ∷ 77 ∷ 74 ∷ 75 ∷ 72 ∷ 73 ∷ 86 ∷ 87 ∷ 84 ∷ 85 ∷ 82 ∷ 83 ∷ 80 ∷ 81 ∷ 94 ∷ 95 ∷ 92 ∷ 93 ∷ 90 ∷ 91 ∷ 88 ∷ 89 ∷ 102 ∷ 103 ∷ 100 ∷ 101 ∷ 98 ∷ 99 ∷ 96 ∷ 97 ∷ 110 ∷ 111 ∷ [])) (short_tag 58)) ∷ []) (Say.Drained 4)
    ∷ answered (Do.Post 0 0 (filled_line 76)) Say.Ok
    ∷ answered_with (Do.Drain 0) ((Seal 0 (ctr 0 43) (line_of (103 ∷ range_with_len 96 4 ++ range_with_len 124 4 ++ range_with_len 120 4 ++ range_with_len 116 4 ++ range_with_len 112 4 ++ range_with_len 12 4 ++ range_with_len 8 4 ++ range_with_len 4 4 ++ range_with_len 0 4 ++ range_with_len 28 4 ++ range_with_len 24 4 ++ range_with_len 20 4 ++ range_with_len 16 4 ++ range_with_len 44 4 ++ range_with_len 40 4 ++ 36 ∷ 37 ∷ 38 ∷ [])) (short_tag 123)) ∷ []) (Say.Drained 4)
    ∷ answered (Do.Post 0 0 (filled_line 41)) Say.Ok
    ∷ answered_with (Do.Drain 0) ((Seal 0 (ctr 0 44) (line_of (5 ∷ 4 ∷ 7 ∷ 6 ∷ 25 ∷ 24 ∷ 27 ∷ 26 ∷ 29 ∷ 28 ∷ 31 ∷ 30 ∷ 17 ∷ 16 ∷ 19 ∷ 18 ∷ 21 ∷ 20 ∷ 23 ∷ 22 ∷ 105 ∷ 104 ∷ 107 ∷ 106 ∷ 109 ∷ 108 ∷ 111 ∷ 110 ∷ 97 ∷ 96 ∷ 99 ∷ 98 ∷ 101 ∷ 100 ∷ 103 ∷ 102 ∷ 121 ∷ 120 ∷ 123 ∷ 122 ∷ 125 ∷ 124 ∷ 127 ∷ 126 ∷ 113 ∷ 112 ∷ 115 ∷ 114 ∷ 117 ∷ 116 ∷ 119 ∷ 118 ∷ 73 ∷ 72 ∷ 75 ∷ 74 ∷ 77 ∷ 76 ∷ 79 ∷ 78 ∷ 65 ∷ 64 ∷ 67 ∷ 66 ∷ [])) (short_tag 60)) ∷ []) (Say.Drained 5)
    ∷ answered (Do.Post 0 0 (filled_line 253)) Say.Ok
    ∷ answered_with (Do.Drain 0) ((Seal 0 (ctr 0 45) (line_of (208 ∷ 211 ∷ 210 ∷ 205 ∷ 204 ∷ 207 ∷ 206 ∷ 201 ∷ 200 ∷ 203 ∷ 202 ∷ 197 ∷ 196 ∷ 199 ∷ 198 ∷ 193 ∷ 192 ∷ 195 ∷ 194 ∷ 189 ∷ 188 ∷ 191 ∷ 190 ∷ 185 ∷ 184 ∷ 187 ∷ 186 ∷ 181 ∷ 180 ∷ 183 ∷ 182 ∷ 177 ∷ 176 ∷ 179 ∷ 178 ∷ 173 ∷ 172 ∷ 175 ∷ 174 ∷ 169 ∷ 168 ∷ 171 ∷ 170 ∷ 165 ∷ 164 ∷ 167 ∷ 166 ∷ 161 ∷ 160 ∷ 163 ∷ 162 ∷ 157 ∷ 156 ∷ 159 ∷ 158 ∷ 153 ∷ 152 ∷ 155 ∷ 154 ∷ 149 ∷ 148 ∷ 151 ∷ 150 ∷ 145 ∷ [])) (short_tag 125)) ∷ []) (Say.Drained 4)
    ∷ answered (Do.Post 0 0 (filled_line 27)) Say.Ok
    ∷ answered_with (Do.Drain 0) ((Seal 0 (ctr 0 46) (line_of (53 ∷ 52 ∷ 43 ∷ 42 ∷ 41 ∷ 40 ∷ 47 ∷ 46 ∷ 45 ∷ 44 ∷ 35 ∷ 34 ∷ 33 ∷ 32 ∷ 39 ∷ 38 ∷ 37 ∷ 36 ∷ 91 ∷ 90 ∷ 89 ∷ 88 ∷ 95 ∷ 94 ∷ 93 ∷ 92 ∷ 83 ∷ 82 ∷ 81 ∷ 80 ∷ 87 ∷ 86 ∷ 85 ∷ 84 ∷ 75 ∷ 74 ∷ 73 ∷ 72 ∷ 79 ∷ 78 ∷ 77 ∷ 76 ∷ 67 ∷ 66 ∷ 65 ∷ 64 ∷ 71 ∷ 70 ∷ 69 ∷ 68 ∷ 123 ∷ 122 ∷ 121 ∷ 120 ∷ 127 ∷ 126 ∷ 125 ∷ 124 ∷ 115 ∷ 114 ∷ 113 ∷ 112 ∷ 119 ∷ 118 ∷ [])) (short_tag 62)) ∷ []) (Say.Drained 4)
    ∷ answered (Do.Post 0 0 (filled_line 55)) Say.Ok
    ∷ answered_with (Do.Drain 0) ((Seal 0 (ctr 0 47) (line_of (24 ∷ 7 ∷ 6 ∷ 5 ∷ 4 ∷ 3 ∷ 2 ∷ 1 ∷ 0 ∷ 15 ∷ 14 ∷ 13 ∷ 12 ∷ 11 ∷ 10 ∷ 9 ∷ 8 ∷ 119 ∷ 118 ∷ 117 ∷ 116 ∷ 115 ∷ 114 ∷ 113 ∷ 112 ∷ 127 ∷ 126 ∷ 125 ∷ 124 ∷ 123 ∷ 122 ∷ 121 ∷ 120 ∷ 103 ∷ 102 ∷ 101 ∷ 100 ∷ 99 ∷ 98 ∷ 97 ∷ 96 ∷ 111 ∷ 110 ∷ 109 ∷ 108 ∷ 107 ∷ 106 ∷ 105 ∷ 104 ∷ 87 ∷ 86 ∷ 85 ∷ 84 ∷ 83 ∷ 82 ∷ 81 ∷ 80 ∷ 95 ∷ 94 ∷ 93 ∷ 92 ∷ 91 ∷ 90 ∷ 89 ∷ [])) (short_tag 127)) ∷ []) (Say.Drained 4)
    ∷ answered (Do.Post 0 0 (filled_line 65)) Say.Ok
    ∷ answered_with (Do.Drain 0) ((Seal 0 (ctr 0 48) (line_of (113 ∷ 112 ∷ 115 ∷ 114 ∷ 117 ∷ 116 ∷ 119 ∷ 118 ∷ 121 ∷ 120 ∷ 123 ∷ 122 ∷ 125 ∷ 124 ∷ 127 ∷ 126 ∷ 1 ∷ 0 ∷ 3 ∷ 2 ∷ 5 ∷ 4 ∷ 7 ∷ 6 ∷ 9 ∷ 8 ∷ 11 ∷ 10 ∷ 13 ∷ 12 ∷ 15 ∷ 14 ∷ 17 ∷ 16 ∷ 19 ∷ 18 ∷ 21 ∷ 20 ∷ 23 ∷ 22 ∷ 25 ∷ 24 ∷ 27 ∷ 26 ∷ 29 ∷ 28 ∷ 31 ∷ 30 ∷ 33 ∷ 32 ∷ 35 ∷ 34 ∷ 37 ∷ 36 ∷ 39 ∷ 38 ∷ 41 ∷ 40 ∷ 43 ∷ 42 ∷ 45 ∷ 44 ∷ 47 ∷ 46 ∷ [])) (short_tag 32)) ∷ []) (Say.Drained 5)
    ∷ answered (Do.Post 0 0 (filled_line 212)) Say.Ok
    ∷ answered_with (Do.Drain 0) ((Seal 0 (ctr 0 49) (line_of (229 ∷ 230 ∷ 231 ∷ range_with_len 224 4 ++ range_with_len 236 4 ++ range_with_len 232 4 ++ range_with_len 148 4 ++ range_with_len 144 4 ++ range_with_len 156 4 ++ range_with_len 152 4 ++ range_with_len 132 4 ++ range_with_len 128 4 ++ range_with_len 140 4 ++ range_with_len 136 4 ++ range_with_len 180 4 ++ range_with_len 176 4 ++ range_with_len 188 4 ++ range_with_len 184 4 ++ 164 ∷ [])) (short_tag 97)) ∷ []) (Say.Drained 4)
    ∷ answered (Do.Post 0 0 (filled_line 250)) Say.Ok
    ∷ answered_with (Do.Drain 0) ((Seal 0 (ctr 0 50) (line_of (200 ∷ 201 ∷ 206 ∷ 207 ∷ 204 ∷ 205 ∷ 194 ∷ 195 ∷ 192 ∷ 193 ∷ 198 ∷ 199 ∷ 196 ∷ 197 ∷ 186 ∷ 187 ∷ 184 ∷ 185 ∷ 190 ∷ 191 ∷ 188 ∷ 189 ∷ 178 ∷ 179 ∷ 176 ∷ 177 ∷ 182 ∷ 183 ∷ 180 ∷ 181 ∷ 170 ∷ 171 ∷ 168 ∷ 169 ∷ 174 ∷ 175 ∷ 172 ∷ 173 ∷ 162 ∷ 163 ∷ 160 ∷ 161 ∷ 166 ∷ 167 ∷ 164 ∷ 165 ∷ 154 ∷ 155 ∷ 152 ∷ 153 ∷ 158 ∷ 159 ∷ 156 ∷ 157 ∷ 146 ∷ 147 ∷ 144 ∷ 145 ∷ 150 ∷ 151 ∷ 148 ∷ 149 ∷ 138 ∷ 139 ∷ [])) (short_tag 34)) ∷ []) (Say.Drained 4)
    ∷ answered (Do.Post 0 0 (filled_line 208)) Say.Ok
    ∷ answered_with (Do.Drain 0) ((Seal 0 (ctr 0 51) (line_of (range_with_len 227 13 ++ range_with_len 144 16 ++ range_with_len 128 16 ++ range_with_len 176 16 ++ 160 ∷ 161 ∷ 162 ∷ [])) (short_tag 99)) ∷ []) (Say.Drained 4)
    ∷ answered (Do.Post 0 0 (filled_line 191)) Say.Ok
    ∷ answered_with (Do.Drain 0) ((Seal 0 (ctr 0 52) (line_of (139 ∷ 138 ∷ 137 ∷ 136 ∷ 135 ∷ 134 ∷ 133 ∷ 132 ∷ 131 ∷ 130 ∷ 129 ∷ 128 ∷ 255 ∷ 254 ∷ 253 ∷ 252 ∷ 251 ∷ 250 ∷ 249 ∷ 248 ∷ 247 ∷ 246 ∷ 245 ∷ 244 ∷ 243 ∷ 242 ∷ 241 ∷ 240 ∷ 239 ∷ 238 ∷ 237 ∷ 236 ∷ 235 ∷ 234 ∷ 233 ∷ 232 ∷ 231 ∷ 230 ∷ 229 ∷ 228 ∷ 227 ∷ 226 ∷ 225 ∷ 224 ∷ 223 ∷ 222 ∷ 221 ∷ 220 ∷ 219 ∷ 218 ∷ 217 ∷ 216 ∷ 215 ∷ 214 ∷ 213 ∷ 212 ∷ 211 ∷ 210 ∷ 209 ∷ 208 ∷ 207 ∷ 206 ∷ 205 ∷ 204 ∷ [])) (short_tag 36)) ∷ []) (Say.Drained 5)
    ∷ answered (Do.Post 0 0 (filled_line 221)) Say.Ok
    ∷ answered_with (Do.Drain 0) ((Seal 0 (ctr 0 53) (line_of (232 ∷ 235 ∷ 234 ∷ 229 ∷ 228 ∷ 231 ∷ 230 ∷ 225 ∷ 224 ∷ 227 ∷ 226 ∷ 157 ∷ 156 ∷ 159 ∷ 158 ∷ 153 ∷ 152 ∷ 155 ∷ 154 ∷ 149 ∷ 148 ∷ 151 ∷ 150 ∷ 145 ∷ 144 ∷ 147 ∷ 146 ∷ 141 ∷ 140 ∷ 143 ∷ 142 ∷ 137 ∷ 136 ∷ 139 ∷ 138 ∷ 133 ∷ 132 ∷ 135 ∷ 134 ∷ 129 ∷ 128 ∷ 131 ∷ 130 ∷ 189 ∷ 188 ∷ 191 ∷ 190 ∷ 185 ∷ 184 ∷ 187 ∷ 186 ∷ 181 ∷ 180 ∷ 183 ∷ 182 ∷ 177 ∷ 176 ∷ 179 ∷ 178 ∷ 173 ∷ 172 ∷ 175 ∷ 174 ∷ 169 ∷ [])) (short_tag 101)) ∷ []) (Say.Drained 4)
    ∷ answered (Do.Post 0 0 (filled_line 188)) Say.Ok
    ∷ answered_with (Do.Drain 0) ((Seal 0 (ctr 0 54) (line_of (138 ∷ 139 ∷ range_with_len 132 4 ++ range_with_len 128 4 ++ range_with_len 252 4 ++ range_with_len 248 4 ++ range_with_len 244 4 ++ range_with_len 240 4 ++ range_with_len 236 4 ++ range_with_len 232 4 ++ range_with_len 228 4 ++ range_with_len 224 4 ++ range_with_len 220 4 ++ range_with_len 216 4 ++ range_with_len 212 4 ++ range_with_len 208 4 ++ range_with_len 204 4 ++ 200 ∷ 201 ∷ [])) (short_tag 38)) ∷ []) (Say.Drained 4)
    ∷ answered (Do.Post 0 0 (filled_line 223)) Say.Ok
    ∷ answered_with (Do.Drain 0) ((Seal 0 (ctr 0 55) (line_of (232 ∷ 231 ∷ 230 ∷ 229 ∷ 228 ∷ 227 ∷ 226 ∷ 225 ∷ 224 ∷ 159 ∷ 158 ∷ 157 ∷ 156 ∷ 155 ∷ 154 ∷ 153 ∷ 152 ∷ 151 ∷ 150 ∷ 149 ∷ 148 ∷ 147 ∷ 146 ∷ 145 ∷ 144 ∷ 143 ∷ 142 ∷ 141 ∷ 140 ∷ 139 ∷ 138 ∷ 137 ∷ 136 ∷ 135 ∷ 134 ∷ 133 ∷ 132 ∷ 131 ∷ 130 ∷ 129 ∷ 128 ∷ 191 ∷ 190 ∷ 189 ∷ 188 ∷ 187 ∷ 186 ∷ 185 ∷ 184 ∷ 183 ∷ 182 ∷ 181 ∷ 180 ∷ 179 ∷ 178 ∷ 177 ∷ 176 ∷ 175 ∷ 174 ∷ 173 ∷ 172 ∷ 171 ∷ 170 ∷ 169 ∷ [])) (short_tag 103)) ∷ []) (Say.Drained 4)
    ∷ answered (Do.Post 0 0 (filled_line 34)) Say.Ok
    ∷ answered_with (Do.Drain 0) ((Seal 0 (ctr 0 56) (line_of (26 ∷ 27 ∷ 24 ∷ 25 ∷ 30 ∷ 31 ∷ 28 ∷ 29 ∷ 98 ∷ 99 ∷ 96 ∷ 97 ∷ 102 ∷ 103 ∷ 100 ∷ 101 ∷ 106 ∷ 107 ∷ 104 ∷ 105 ∷ 110 ∷ 111 ∷ 108 ∷ 109 ∷ 114 ∷ 115 ∷ 112 ∷ 113 ∷ 118 ∷ 119 ∷ 116 ∷ 117 ∷ 122 ∷ 123 ∷ 120 ∷ 121 ∷ 126 ∷ 127 ∷ 124 ∷ 125 ∷ 66 ∷ 67 ∷ 64 ∷ 65 ∷ 70 ∷ 71 ∷ 68 ∷ 69 ∷ 74 ∷ 75 ∷ 72 ∷ 73 ∷ 78 ∷ 79 ∷ 76 ∷ 77 ∷ 82 ∷ 83 ∷ 80 ∷ 81 ∷ 86 ∷ 87 ∷ 84 ∷ 85 ∷ [])) (short_tag 40)) ∷ []) (Say.Drained 5)
    ∷ answered (Do.Post 0 0 (filled_line 234)) Say.Ok
    ∷ answered_with (Do.Drain 0) ((Seal 0 (ctr 0 57) (line_of (211 ∷ 208 ∷ 209 ∷ 214 ∷ 215 ∷ 212 ∷ 213 ∷ 170 ∷ 171 ∷ 168 ∷ 169 ∷ 174 ∷ 175 ∷ 172 ∷ 173 ∷ 162 ∷ 163 ∷ 160 ∷ 161 ∷ 166 ∷ 167 ∷ 164 ∷ 165 ∷ 186 ∷ 187 ∷ 184 ∷ 185 ∷ 190 ∷ 191 ∷ 188 ∷ 189 ∷ 178 ∷ 179 ∷ 176 ∷ 177 ∷ 182 ∷ 183 ∷ 180 ∷ 181 ∷ 138 ∷ 139 ∷ 136 ∷ 137 ∷ 142 ∷ 143 ∷ 140 ∷ 141 ∷ 130 ∷ 131 ∷ 128 ∷ 129 ∷ 134 ∷ 135 ∷ 132 ∷ 133 ∷ 154 ∷ 155 ∷ 152 ∷ 153 ∷ 158 ∷ 159 ∷ 156 ∷ 157 ∷ 146 ∷ [])) (short_tag 105)) ∷ []) (Say.Drained 4)
    ∷ answered (Do.Post 0 0 (filled_line 163)) Say.Ok
    ∷ answered_with (Do.Drain 0) ((Seal 0 (ctr 0 58) (line_of (153 ∷ 152 ∷ 159 ∷ 158 ∷ 157 ∷ 156 ∷ 227 ∷ 226 ∷ 225 ∷ 224 ∷ 231 ∷ 230 ∷ 229 ∷ 228 ∷ 235 ∷ 234 ∷ 233 ∷ 232 ∷ 239 ∷ 238 ∷ 237 ∷ 236 ∷ 243 ∷ 242 ∷ 241 ∷ 240 ∷ 247 ∷ 246 ∷ 245 ∷ 244 ∷ 251 ∷ 250 ∷ 249 ∷ 248 ∷ 255 ∷ 254 ∷ 253 ∷ 252 ∷ 195 ∷ 194 ∷ 193 ∷ 192 ∷ 199 ∷ 198 ∷ 197 ∷ 196 ∷ 203 ∷ 202 ∷ 201 ∷ 200 ∷ 207 ∷ 206 ∷ 205 ∷ 204 ∷ 211 ∷ 210 ∷ 209 ∷ 208 ∷ 215 ∷ 214 ∷ 213 ∷ 212 ∷ 219 ∷ 218 ∷ [])) (short_tag 42)) ∷ []) (Say.Drained 4)
    ∷ answered (Do.Post 0 0 (filled_line 48)) Say.Ok
    ∷ answered_with (Do.Drain 0) ((Seal 0 (ctr 0 59) (line_of (range_with_len 11 5 ++ range_with_len 112 16 ++ range_with_len 96 16 ++ range_with_len 80 16 ++ range_with_len 64 11)) (short_tag 107)) ∷ []) (Say.Drained 4)
    ∷ answered (Do.Post 0 0 (filled_line 98)) Say.Ok
    ∷ answered_with (Do.Drain 0) ((Seal 0 (ctr 0 60) (line_of (94 ∷ 95 ∷ 92 ∷ 93 ∷ 34 ∷ 35 ∷ 32 ∷ 33 ∷ 38 ∷ 39 ∷ 36 ∷ 37 ∷ 42 ∷ 43 ∷ 40 ∷ 41 ∷ 46 ∷ 47 ∷ 44 ∷ 45 ∷ 50 ∷ 51 ∷ 48 ∷ 49 ∷ 54 ∷ 55 ∷ 52 ∷ 53 ∷ 58 ∷ 59 ∷ 56 ∷ 57 ∷ 62 ∷ 63 ∷ 60 ∷ 61 ∷ 2 ∷ 3 ∷ 0 ∷ 1 ∷ 6 ∷ 7 ∷ 4 ∷ 5 ∷ 10 ∷ 11 ∷ 8 ∷ 9 ∷ 14 ∷ 15 ∷ 12 ∷ 13 ∷ 18 ∷ 19 ∷ 16 ∷ 17 ∷ 22 ∷ 23 ∷ 20 ∷ 21 ∷ 26 ∷ 27 ∷ 24 ∷ 25 ∷ [])) (short_tag 44)) ∷ []) (Say.Drained 5)
    ∷ answered (Do.Post 0 0 (filled_line 65)) Say.Ok
    ∷ answered_with (Do.Drain 0) ((Seal 0 (ctr 0 61) (line_of (124 ∷ 127 ∷ 126 ∷ 1 ∷ 0 ∷ 3 ∷ 2 ∷ 5 ∷ 4 ∷ 7 ∷ 6 ∷ 9 ∷ 8 ∷ 11 ∷ 10 ∷ 13 ∷ 12 ∷ 15 ∷ 14 ∷ 17 ∷ 16 ∷ 19 ∷ 18 ∷ 21 ∷ 20 ∷ 23 ∷ 22 ∷ 25 ∷ 24 ∷ 27 ∷ 26 ∷ 29 ∷ 28 ∷ 31 ∷ 30 ∷ 33 ∷ 32 ∷ 35 ∷ 34 ∷ 37 ∷ 36 ∷ 39 ∷ 38 ∷ 41 ∷ 40 ∷ 43 ∷ 42 ∷ 45 ∷ 44 ∷ 47 ∷ 46 ∷ 49 ∷ 48 ∷ 51 ∷ 50 ∷ 53 ∷ 52 ∷ 55 ∷ 54 ∷ 57 ∷ 56 ∷ 59 ∷ 58 ∷ 61 ∷ [])) (short_tag 109)) ∷ []) (Say.Drained 4)
    ∷ answered (Do.Post 0 0 (filled_line 98)) Say.Ok
    ∷ answered_with (Do.Drain 0) ((Seal 0 (ctr 0 62) (line_of (92 ∷ 93 ∷ 34 ∷ 35 ∷ 32 ∷ 33 ∷ 38 ∷ 39 ∷ 36 ∷ 37 ∷ 42 ∷ 43 ∷ 40 ∷ 41 ∷ 46 ∷ 47 ∷ 44 ∷ 45 ∷ 50 ∷ 51 ∷ 48 ∷ 49 ∷ 54 ∷ 55 ∷ 52 ∷ 53 ∷ 58 ∷ 59 ∷ 56 ∷ 57 ∷ 62 ∷ 63 ∷ 60 ∷ 61 ∷ 2 ∷ 3 ∷ 0 ∷ 1 ∷ 6 ∷ 7 ∷ 4 ∷ 5 ∷ 10 ∷ 11 ∷ 8 ∷ 9 ∷ 14 ∷ 15 ∷ 12 ∷ 13 ∷ 18 ∷ 19 ∷ 16 ∷ 17 ∷ 22 ∷ 23 ∷ 20 ∷ 21 ∷ 26 ∷ 27 ∷ 24 ∷ 25 ∷ 30 ∷ 31 ∷ [])) (short_tag 46)) ∷ []) (Say.Drained 4)
    ∷ answered (Do.Post 0 0 (filled_line 238)) Say.Ok
    ∷ answered_with (Do.Drain 0) ((Seal 0 (ctr 0 63) (line_of (209 ∷ 174 ∷ 175 ∷ 172 ∷ 173 ∷ 170 ∷ 171 ∷ 168 ∷ 169 ∷ 166 ∷ 167 ∷ 164 ∷ 165 ∷ 162 ∷ 163 ∷ 160 ∷ 161 ∷ 190 ∷ 191 ∷ 188 ∷ 189 ∷ 186 ∷ 187 ∷ 184 ∷ 185 ∷ 182 ∷ 183 ∷ 180 ∷ 181 ∷ 178 ∷ 179 ∷ 176 ∷ 177 ∷ 142 ∷ 143 ∷ 140 ∷ 141 ∷ 138 ∷ 139 ∷ 136 ∷ 137 ∷ 134 ∷ 135 ∷ 132 ∷ 133 ∷ 130 ∷ 131 ∷ 128 ∷ 129 ∷ 158 ∷ 159 ∷ 156 ∷ 157 ∷ 154 ∷ 155 ∷ 152 ∷ 153 ∷ 150 ∷ 151 ∷ 148 ∷ 149 ∷ 146 ∷ 147 ∷ 144 ∷ [])) (short_tag 111)) ∷ []) (Say.Drained 4)
    ∷ answered (Do.Post 0 0 (filled_line 104)) Say.Ok
    ∷ answered_with (Do.Drain 0) ((Seal 0 (ctr 0 64) (line_of (range_with_len 40 8 ++ range_with_len 32 8 ++ range_with_len 56 8 ++ range_with_len 48 8 ++ range_with_len 8 8 ++ range_with_len 0 8 ++ range_with_len 24 8 ++ range_with_len 16 8)) (short_tag 80)) ∷ []) (Say.Drained 5)
    ∷ answered (Do.Post 0 0 (filled_line 173)) Say.Ok
    ∷ answered_with (Do.Drain 0) ((Seal 0 (ctr 0 65) (line_of (236 ∷ 239 ∷ 238 ∷ 233 ∷ 232 ∷ 235 ∷ 234 ∷ 229 ∷ 228 ∷ 231 ∷ 230 ∷ 225 ∷ 224 ∷ 227 ∷ 226 ∷ 253 ∷ 252 ∷ 255 ∷ 254 ∷ 249 ∷ 248 ∷ 251 ∷ 250 ∷ 245 ∷ 244 ∷ 247 ∷ 246 ∷ 241 ∷ 240 ∷ 243 ∷ 242 ∷ 205 ∷ 204 ∷ 207 ∷ 206 ∷ 201 ∷ 200 ∷ 203 ∷ 202 ∷ 197 ∷ 196 ∷ 199 ∷ 198 ∷ 193 ∷ 192 ∷ 195 ∷ 194 ∷ 221 ∷ 220 ∷ 223 ∷ 222 ∷ 217 ∷ 216 ∷ 219 ∷ 218 ∷ 213 ∷ 212 ∷ 215 ∷ 214 ∷ 209 ∷ 208 ∷ 211 ∷ 210 ∷ 45 ∷ [])) (short_tag 145)) ∷ []) (Say.Drained 4)
    ∷ answered (Do.Post 0 0 (filled_line 123)) Say.Ok
    ∷ answered_with (Do.Drain 0) ((Seal 0 (ctr 0 66) (line_of (57 ∷ 56 ∷ 63 ∷ 62 ∷ 61 ∷ 60 ∷ 51 ∷ 50 ∷ 49 ∷ 48 ∷ 55 ∷ 54 ∷ 53 ∷ 52 ∷ 43 ∷ 42 ∷ 41 ∷ 40 ∷ 47 ∷ 46 ∷ 45 ∷ 44 ∷ 35 ∷ 34 ∷ 33 ∷ 32 ∷ 39 ∷ 38 ∷ 37 ∷ 36 ∷ 27 ∷ 26 ∷ 25 ∷ 24 ∷ 31 ∷ 30 ∷ 29 ∷ 28 ∷ 19 ∷ 18 ∷ 17 ∷ 16 ∷ 23 ∷ 22 ∷ 21 ∷ 20 ∷ 11 ∷ 10 ∷ 9 ∷ 8 ∷ 15 ∷ 14 ∷ 13 ∷ 12 ∷ 3 ∷ 2 ∷ 1 ∷ 0 ∷ 7 ∷ 6 ∷ 5 ∷ 4 ∷ 251 ∷ 250 ∷ [])) (short_tag 82)) ∷ []) (Say.Drained 4)
    ∷ answered (Do.Post 0 0 (filled_line 188)) Say.Ok
    ∷ answered_with (Do.Drain 0) ((Seal 0 (ctr 0 67) (line_of (255 ∷ range_with_len 248 4 ++ range_with_len 244 4 ++ range_with_len 240 4 ++ range_with_len 236 4 ++ range_with_len 232 4 ++ range_with_len 228 4 ++ range_with_len 224 4 ++ range_with_len 220 4 ++ range_with_len 216 4 ++ range_with_len 212 4 ++ range_with_len 208 4 ++ range_with_len 204 4 ++ range_with_len 200 4 ++ range_with_len 196 4 ++ range_with_len 192 4 ++ 60 ∷ 61 ∷ 62 ∷ [])) (short_tag 147)) ∷ []) (Say.Drained 4)
    ∷ answered (Do.Post 0 0 (filled_line 206)) Say.Ok
    ∷ answered_with (Do.Drain 0) ((Seal 0 (ctr 0 68) (line_of (138 ∷ 139 ∷ 136 ∷ 137 ∷ 134 ∷ 135 ∷ 132 ∷ 133 ∷ 130 ∷ 131 ∷ 128 ∷ 129 ∷ 158 ∷ 159 ∷ 156 ∷ 157 ∷ 154 ∷ 155 ∷ 152 ∷ 153 ∷ 150 ∷ 151 ∷ 148 ∷ 149 ∷ 146 ∷ 147 ∷ 144 ∷ 145 ∷ 174 ∷ 175 ∷ 172 ∷ 173 ∷ 170 ∷ 171 ∷ 168 ∷ 169 ∷ 166 ∷ 167 ∷ 164 ∷ 165 ∷ 162 ∷ 163 ∷ 160 ∷ 161 ∷ 190 ∷ 191 ∷ 188 ∷ 189 ∷ 186 ∷ 187 ∷ 184 ∷ 185 ∷ 182 ∷ 183 ∷ 180 ∷ 181 ∷ 178 ∷ 179 ∷ 176 ∷ 177 ∷ 78 ∷ 79 ∷ 76 ∷ 77 ∷ [])) (short_tag 84)) ∷ []) (Say.Drained 5)
    ∷ answered (Do.Post 0 0 (filled_line 252)) Say.Ok
    ∷ answered_with (Do.Drain 0) ((Seal 0 (ctr 0 69) (line_of (185 ∷ 186 ∷ 187 ∷ range_with_len 180 4 ++ range_with_len 176 4 ++ range_with_len 172 4 ++ range_with_len 168 4 ++ range_with_len 164 4 ++ range_with_len 160 4 ++ range_with_len 156 4 ++ range_with_len 152 4 ++ range_with_len 148 4 ++ range_with_len 144 4 ++ range_with_len 140 4 ++ range_with_len 136 4 ++ range_with_len 132 4 ++ range_with_len 128 4 ++ range_with_len 124 4 ++ 120 ∷ [])) (short_tag 149)) ∷ []) (Say.Drained 4)
    ∷ answered (Do.Post 0 0 (filled_line 134)) Say.Ok
    ∷ answered_with (Do.Drain 0) ((Seal 0 (ctr 0 70) (line_of (192 ∷ 193 ∷ 206 ∷ 207 ∷ 204 ∷ 205 ∷ 202 ∷ 203 ∷ 200 ∷ 201 ∷ 214 ∷ 215 ∷ 212 ∷ 213 ∷ 210 ∷ 211 ∷ 208 ∷ 209 ∷ 222 ∷ 223 ∷ 220 ∷ 221 ∷ 218 ∷ 219 ∷ 216 ∷ 217 ∷ 230 ∷ 231 ∷ 228 ∷ 229 ∷ 226 ∷ 227 ∷ 224 ∷ 225 ∷ 238 ∷ 239 ∷ 236 ∷ 237 ∷ 234 ∷ 235 ∷ 232 ∷ 233 ∷ 246 ∷ 247 ∷ 244 ∷ 245 ∷ 242 ∷ 243 ∷ 240 ∷ 241 ∷ 254 ∷ 255 ∷ 252 ∷ 253 ∷ 250 ∷ 251 ∷ 248 ∷ 249 ∷ 6 ∷ 7 ∷ 4 ∷ 5 ∷ 2 ∷ 3 ∷ [])) (short_tag 86)) ∷ []) (Say.Drained 4)
    ∷ answered (Do.Post 0 0 (filled_line 67)) Say.Ok
    ∷ answered_with (Do.Drain 0) ((Seal 0 (ctr 0 71) (line_of (4 ∷ 11 ∷ 10 ∷ 9 ∷ 8 ∷ 15 ∷ 14 ∷ 13 ∷ 12 ∷ 19 ∷ 18 ∷ 17 ∷ 16 ∷ 23 ∷ 22 ∷ 21 ∷ 20 ∷ 27 ∷ 26 ∷ 25 ∷ 24 ∷ 31 ∷ 30 ∷ 29 ∷ 28 ∷ 35 ∷ 34 ∷ 33 ∷ 32 ∷ 39 ∷ 38 ∷ 37 ∷ 36 ∷ 43 ∷ 42 ∷ 41 ∷ 40 ∷ 47 ∷ 46 ∷ 45 ∷ 44 ∷ 51 ∷ 50 ∷ 49 ∷ 48 ∷ 55 ∷ 54 ∷ 53 ∷ 52 ∷ 59 ∷ 58 ∷ 57 ∷ 56 ∷ 63 ∷ 62 ∷ 61 ∷ 60 ∷ 195 ∷ 194 ∷ 193 ∷ 192 ∷ 199 ∷ 198 ∷ 197 ∷ [])) (short_tag 151)) ∷ []) (Say.Drained 4)
    ∷ answered (Do.Post 0 0 (filled_line 185)) Say.Ok
    ∷ answered_with (Do.Drain 0) ((Seal 0 (ctr 0 72) (line_of (241 ∷ 240 ∷ 243 ∷ 242 ∷ 245 ∷ 244 ∷ 247 ∷ 246 ∷ 233 ∷ 232 ∷ 235 ∷ 234 ∷ 237 ∷ 236 ∷ 239 ∷ 238 ∷ 225 ∷ 224 ∷ 227 ∷ 226 ∷ 229 ∷ 228 ∷ 231 ∷ 230 ∷ 217 ∷ 216 ∷ 219 ∷ 218 ∷ 221 ∷ 220 ∷ 223 ∷ 222 ∷ 209 ∷ 208 ∷ 211 ∷ 210 ∷ 213 ∷ 212 ∷ 215 ∷ 214 ∷ 201 ∷ 200 ∷ 203 ∷ 202 ∷ 205 ∷ 204 ∷ 207 ∷ 206 ∷ 193 ∷ 192 ∷ 195 ∷ 194 ∷ 197 ∷ 196 ∷ 199 ∷ 198 ∷ 57 ∷ 56 ∷ 59 ∷ 58 ∷ 61 ∷ 60 ∷ 63 ∷ 62 ∷ [])) (short_tag 88)) ∷ []) (Say.Drained 5)
    ∷ answered (Do.Post 0 0 (filled_line 208)) Say.Ok
    ∷ answered_with (Do.Drain 0) ((Seal 0 (ctr 0 73) (line_of (range_with_len 153 7 ++ range_with_len 128 16 ++ range_with_len 176 16 ++ range_with_len 160 16 ++ range_with_len 80 9)) (short_tag 153)) ∷ []) (Say.Drained 4)
    ∷ answered (Do.Post 0 0 (filled_line 209)) Say.Ok
    ∷ answered_with (Do.Drain 0) ((Seal 0 (ctr 0 74) (line_of (155 ∷ 154 ∷ 157 ∷ 156 ∷ 159 ∷ 158 ∷ 129 ∷ 128 ∷ 131 ∷ 130 ∷ 133 ∷ 132 ∷ 135 ∷ 134 ∷ 137 ∷ 136 ∷ 139 ∷ 138 ∷ 141 ∷ 140 ∷ 143 ∷ 142 ∷ 177 ∷ 176 ∷ 179 ∷ 178 ∷ 181 ∷ 180 ∷ 183 ∷ 182 ∷ 185 ∷ 184 ∷ 187 ∷ 186 ∷ 189 ∷ 188 ∷ 191 ∷ 190 ∷ 161 ∷ 160 ∷ 163 ∷ 162 ∷ 165 ∷ 164 ∷ 167 ∷ 166 ∷ 169 ∷ 168 ∷ 171 ∷ 170 ∷ 173 ∷ 172 ∷ 175 ∷ 174 ∷ 81 ∷ 80 ∷ 83 ∷ 82 ∷ 85 ∷ 84 ∷ 87 ∷ 86 ∷ 89 ∷ 88 ∷ [])) (short_tag 90)) ∷ []) (Say.Drained 4)
    ∷ answered (Do.Post 0 0 (filled_line 168)) Say.Ok
    ∷ answered_with (Do.Drain 0) ((Seal 0 (ctr 0 75) (line_of (range_with_len 227 5 ++ range_with_len 248 8 ++ range_with_len 240 8 ++ range_with_len 200 8 ++ range_with_len 192 8 ++ range_with_len 216 8 ++ range_with_len 208 8 ++ range_with_len 40 8 ++ 32 ∷ 33 ∷ 34 ∷ [])) (short_tag 155)) ∷ []) (Say.Drained 4)
    ∷ answered (Do.Post 0 0 (filled_line 18)) Say.Ok
    ∷ answered_with (Do.Drain 0) ((Seal 0 (ctr 0 76) (line_of (94 ∷ 95 ∷ 92 ∷ 93 ∷ 66 ∷ 67 ∷ 64 ∷ 65 ∷ 70 ∷ 71 ∷ 68 ∷ 69 ∷ 74 ∷ 75 ∷ 72 ∷ 73 ∷ 78 ∷ 79 ∷ 76 ∷ 77 ∷ 114 ∷ 115 ∷ 112 ∷ 113 ∷ 118 ∷ 119 ∷ 116 ∷ 117 ∷ 122 ∷ 123 ∷ 120 ∷ 121 ∷ 126 ∷ 127 ∷ 124 ∷ 125 ∷ 98 ∷ 99 ∷ 96 ∷ 97 ∷ 102 ∷ 103 ∷ 100 ∷ 101 ∷ 106 ∷ 107 ∷ 104 ∷ 105 ∷ 110 ∷ 111 ∷ 108 ∷ 109 ∷ 146 ∷ 147 ∷ 144 ∷ 145 ∷ 150 ∷ 151 ∷ 148 ∷ 149 ∷ 154 ∷ 155 ∷ 152 ∷ 153 ∷ [])) (short_tag 92)) ∷ []) (Say.Drained 5)
    ∷ answered (Do.Post 0 0 (filled_line 93)) Say.Ok
    ∷ answered_with (Do.Drain 0) ((Seal 0 (ctr 0 77) (line_of (16 ∷ 19 ∷ 18 ∷ 13 ∷ 12 ∷ 15 ∷ 14 ∷ 9 ∷ 8 ∷ 11 ∷ 10 ∷ 5 ∷ 4 ∷ 7 ∷ 6 ∷ 1 ∷ 0 ∷ 3 ∷ 2 ∷ 61 ∷ 60 ∷ 63 ∷ 62 ∷ 57 ∷ 56 ∷ 59 ∷ 58 ∷ 53 ∷ 52 ∷ 55 ∷ 54 ∷ 49 ∷ 48 ∷ 51 ∷ 50 ∷ 45 ∷ 44 ∷ 47 ∷ 46 ∷ 41 ∷ 40 ∷ 43 ∷ 42 ∷ 37 ∷ 36 ∷ 39 ∷ 38 ∷ 33 ∷ 32 ∷ 35 ∷ 34 ∷ 221 ∷ 220 ∷ 223 ∷ 222 ∷ 217 ∷ 216 ∷ 219 ∷ 218 ∷ 213 ∷ 212 ∷ 215 ∷ 214 ∷ 209 ∷ [])) (short_tag 157)) ∷ []) (Say.Drained 4)
    ∷ answered (Do.Post 0 0 (filled_line 43)) Say.Ok
    ∷ answered_with (Do.Drain 0) ((Seal 0 (ctr 0 78) (line_of (101 ∷ 100 ∷ 123 ∷ 122 ∷ 121 ∷ 120 ∷ 127 ∷ 126 ∷ 125 ∷ 124 ∷ 115 ∷ 114 ∷ 113 ∷ 112 ∷ 119 ∷ 118 ∷ 117 ∷ 116 ∷ 75 ∷ 74 ∷ 73 ∷ 72 ∷ 79 ∷ 78 ∷ 77 ∷ 76 ∷ 67 ∷ 66 ∷ 65 ∷ 64 ∷ 71 ∷ 70 ∷ 69 ∷ 68 ∷ 91 ∷ 90 ∷ 89 ∷ 88 ∷ 95 ∷ 94 ∷ 93 ∷ 92 ∷ 83 ∷ 82 ∷ 81 ∷ 80 ∷ 87 ∷ 86 ∷ 85 ∷ 84 ∷ 171 ∷ 170 ∷ 169 ∷ 168 ∷ 175 ∷ 174 ∷ 173 ∷ 172 ∷ 163 ∷ 162 ∷ 161 ∷ 160 ∷ 167 ∷ 166 ∷ [])) (short_tag 94)) ∷ []) (Say.Drained 4)
    ∷ answered (Do.Post 0 0 (filled_line 129)) Say.Ok
    ∷ answered_with (Do.Drain 0) ((Seal 0 (ctr 0 79) (line_of (206 ∷ 209 ∷ 208 ∷ 211 ∷ 210 ∷ 213 ∷ 212 ∷ 215 ∷ 214 ∷ 217 ∷ 216 ∷ 219 ∷ 218 ∷ 221 ∷ 220 ∷ 223 ∷ 222 ∷ 225 ∷ 224 ∷ 227 ∷ 226 ∷ 229 ∷ 228 ∷ 231 ∷ 230 ∷ 233 ∷ 232 ∷ 235 ∷ 234 ∷ 237 ∷ 236 ∷ 239 ∷ 238 ∷ 241 ∷ 240 ∷ 243 ∷ 242 ∷ 245 ∷ 244 ∷ 247 ∷ 246 ∷ 249 ∷ 248 ∷ 251 ∷ 250 ∷ 253 ∷ 252 ∷ 255 ∷ 254 ∷ 1 ∷ 0 ∷ 3 ∷ 2 ∷ 5 ∷ 4 ∷ 7 ∷ 6 ∷ 9 ∷ 8 ∷ 11 ∷ 10 ∷ 13 ∷ 12 ∷ 15 ∷ [])) (short_tag 159)) ∷ []) (Say.Drained 4)
    ∷ answered (Do.Post 0 0 (filled_line 55)) Say.Ok
    ∷ answered_with (Do.Drain 0) ((Seal 0 (ctr 0 80) (line_of (103 ∷ 102 ∷ 101 ∷ 100 ∷ 99 ∷ 98 ∷ 97 ∷ 96 ∷ 111 ∷ 110 ∷ 109 ∷ 108 ∷ 107 ∷ 106 ∷ 105 ∷ 104 ∷ 87 ∷ 86 ∷ 85 ∷ 84 ∷ 83 ∷ 82 ∷ 81 ∷ 80 ∷ 95 ∷ 94 ∷ 93 ∷ 92 ∷ 91 ∷ 90 ∷ 89 ∷ 88 ∷ 71 ∷ 70 ∷ 69 ∷ 68 ∷ 67 ∷ 66 ∷ 65 ∷ 64 ∷ 79 ∷ 78 ∷ 77 ∷ 76 ∷ 75 ∷ 74 ∷ 73 ∷ 72 ∷ 183 ∷ 182 ∷ 181 ∷ 180 ∷ 179 ∷ 178 ∷ 177 ∷ 176 ∷ 191 ∷ 190 ∷ 189 ∷ 188 ∷ 187 ∷ 186 ∷ 185 ∷ 184 ∷ [])) (short_tag 64)) ∷ []) (Say.Drained 5)
    ∷ answered (Do.Post 0 0 (filled_line 191)) Say.Ok
    ∷ answered_with (Do.Drain 0) ((Seal 0 (ctr 0 81) (line_of (238 ∷ 237 ∷ 236 ∷ 235 ∷ 234 ∷ 233 ∷ 232 ∷ 231 ∷ 230 ∷ 229 ∷ 228 ∷ 227 ∷ 226 ∷ 225 ∷ 224 ∷ 223 ∷ 222 ∷ 221 ∷ 220 ∷ 219 ∷ 218 ∷ 217 ∷ 216 ∷ 215 ∷ 214 ∷ 213 ∷ 212 ∷ 211 ∷ 210 ∷ 209 ∷ 208 ∷ 207 ∷ 206 ∷ 205 ∷ 204 ∷ 203 ∷ 202 ∷ 201 ∷ 200 ∷ 199 ∷ 198 ∷ 197 ∷ 196 ∷ 195 ∷ 194 ∷ 193 ∷ 192 ∷ 63 ∷ 62 ∷ 61 ∷ 60 ∷ 59 ∷ 58 ∷ 57 ∷ 56 ∷ 55 ∷ 54 ∷ 53 ∷ 52 ∷ 51 ∷ 50 ∷ 49 ∷ 48 ∷ 47 ∷ [])) (short_tag 129)) ∷ []) (Say.Drained 4)
    ∷ answered (Do.Post 0 0 (filled_line 13)) Say.Ok
    ∷ answered_with (Do.Drain 0) ((Seal 0 (ctr 0 82) (line_of (95 ∷ 94 ∷ 89 ∷ 88 ∷ 91 ∷ 90 ∷ 85 ∷ 84 ∷ 87 ∷ 86 ∷ 81 ∷ 80 ∷ 83 ∷ 82 ∷ 109 ∷ 108 ∷ 111 ∷ 110 ∷ 105 ∷ 104 ∷ 107 ∷ 106 ∷ 101 ∷ 100 ∷ 103 ∷ 102 ∷ 97 ∷ 96 ∷ 99 ∷ 98 ∷ 125 ∷ 124 ∷ 127 ∷ 126 ∷ 121 ∷ 120 ∷ 123 ∷ 122 ∷ 117 ∷ 116 ∷ 119 ∷ 118 ∷ 113 ∷ 112 ∷ 115 ∷ 114 ∷ 141 ∷ 140 ∷ 143 ∷ 142 ∷ 137 ∷ 136 ∷ 139 ∷ 138 ∷ 133 ∷ 132 ∷ 135 ∷ 134 ∷ 129 ∷ 128 ∷ 131 ∷ 130 ∷ 157 ∷ 156 ∷ [])) (short_tag 66)) ∷ []) (Say.Drained 4)
    ∷ answered (Do.Post 0 0 (filled_line 211)) Say.Ok
    ∷ answered_with (Do.Drain 0) ((Seal 0 (ctr 0 83) (line_of (128 ∷ 135 ∷ 134 ∷ 133 ∷ 132 ∷ 139 ∷ 138 ∷ 137 ∷ 136 ∷ 143 ∷ 142 ∷ 141 ∷ 140 ∷ 179 ∷ 178 ∷ 177 ∷ 176 ∷ 183 ∷ 182 ∷ 181 ∷ 180 ∷ 187 ∷ 186 ∷ 185 ∷ 184 ∷ 191 ∷ 190 ∷ 189 ∷ 188 ∷ 163 ∷ 162 ∷ 161 ∷ 160 ∷ 167 ∷ 166 ∷ 165 ∷ 164 ∷ 171 ∷ 170 ∷ 169 ∷ 168 ∷ 175 ∷ 174 ∷ 173 ∷ 172 ∷ 83 ∷ 82 ∷ 81 ∷ 80 ∷ 87 ∷ 86 ∷ 85 ∷ 84 ∷ 91 ∷ 90 ∷ 89 ∷ 88 ∷ 95 ∷ 94 ∷ 93 ∷ 92 ∷ 67 ∷ 66 ∷ 65 ∷ [])) (short_tag 131)) ∷ []) (Say.Drained 4)
    ∷ answered (Do.Post 0 0 (filled_line 30)) Say.Ok
    ∷ answered_with (Do.Drain 0) ((Seal 0 (ctr 0 84) (line_of (74 ∷ 75 ∷ 72 ∷ 73 ∷ 70 ∷ 71 ∷ 68 ∷ 69 ∷ 66 ∷ 67 ∷ 64 ∷ 65 ∷ 126 ∷ 127 ∷ 124 ∷ 125 ∷ 122 ∷ 123 ∷ 120 ∷ 121 ∷ 118 ∷ 119 ∷ 116 ∷ 117 ∷ 114 ∷ 115 ∷ 112 ∷ 113 ∷ 110 ∷ 111 ∷ 108 ∷ 109 ∷ 106 ∷ 107 ∷ 104 ∷ 105 ∷ 102 ∷ 103 ∷ 100 ∷ 101 ∷ 98 ∷ 99 ∷ 96 ∷ 97 ∷ 158 ∷ 159 ∷ 156 ∷ 157 ∷ 154 ∷ 155 ∷ 152 ∷ 153 ∷ 150 ∷ 151 ∷ 148 ∷ 149 ∷ 146 ∷ 147 ∷ 144 ∷ 145 ∷ 142 ∷ 143 ∷ 140 ∷ 141 ∷ [])) (short_tag 68)) ∷ []) (Say.Drained 5)
    ∷ answered (Do.Post 0 0 (filled_line 142)) Say.Ok
    ∷ answered_with (Do.Drain 0) ((Seal 0 (ctr 0 85) (line_of (219 ∷ 216 ∷ 217 ∷ 214 ∷ 215 ∷ 212 ∷ 213 ∷ 210 ∷ 211 ∷ 208 ∷ 209 ∷ 238 ∷ 239 ∷ 236 ∷ 237 ∷ 234 ∷ 235 ∷ 232 ∷ 233 ∷ 230 ∷ 231 ∷ 228 ∷ 229 ∷ 226 ∷ 227 ∷ 224 ∷ 225 ∷ 254 ∷ 255 ∷ 252 ∷ 253 ∷ 250 ∷ 251 ∷ 248 ∷ 249 ∷ 246 ∷ 247 ∷ 244 ∷ 245 ∷ 242 ∷ 243 ∷ 240 ∷ 241 ∷ 14 ∷ 15 ∷ 12 ∷ 13 ∷ 10 ∷ 11 ∷ 8 ∷ 9 ∷ 6 ∷ 7 ∷ 4 ∷ 5 ∷ 2 ∷ 3 ∷ 0 ∷ 1 ∷ 30 ∷ 31 ∷ 28 ∷ 29 ∷ 26 ∷ [])) (short_tag 133)) ∷ []) (Say.Drained 4)
    ∷ answered (Do.Post 0 0 (filled_line 232)) Say.Ok
    ∷ answered_with (Do.Drain 0) ((Seal 0 (ctr 0 86) (line_of (190 ∷ 191 ∷ range_with_len 176 8 ++ range_with_len 136 8 ++ range_with_len 128 8 ++ range_with_len 152 8 ++ range_with_len 144 8 ++ range_with_len 104 8 ++ range_with_len 96 8 ++ range_with_len 120 6)) (short_tag 70)) ∷ []) (Say.Drained 4)
    ∷ answered (Do.Post 0 0 (filled_line 100)) Say.Ok
    ∷ answered_with (Do.Drain 0) ((Seal 0 (ctr 0 87) (line_of (51 ∷ range_with_len 60 4 ++ range_with_len 56 4 ++ range_with_len 4 4 ++ range_with_len 0 4 ++ range_with_len 12 4 ++ range_with_len 8 4 ++ range_with_len 20 4 ++ range_with_len 16 4 ++ range_with_len 28 4 ++ range_with_len 24 4 ++ range_with_len 228 4 ++ range_with_len 224 4 ++ range_with_len 236 4 ++ range_with_len 232 4 ++ range_with_len 244 4 ++ 240 ∷ 241 ∷ 242 ∷ [])) (short_tag 135)) ∷ []) (Say.Drained 4)
    ∷ answered (Do.Post 0 0 (filled_line 160)) Say.Ok
    ∷ answered_with (Do.Drain 0) ((Seal 0 (ctr 0 88) (line_of (range_with_len 248 8 ++ range_with_len 192 32 ++ range_with_len 32 24)) (short_tag 72)) ∷ []) (Say.Drained 5)
    ∷ answered (Do.Post 0 0 (filled_line 226)) Say.Ok
    ∷ answered_with (Do.Drain 0) ((Seal 0 (ctr 0 89) (line_of (187 ∷ 184 ∷ 185 ∷ 190 ∷ 191 ∷ 188 ∷ 189 ∷ 130 ∷ 131 ∷ 128 ∷ 129 ∷ 134 ∷ 135 ∷ 132 ∷ 133 ∷ 138 ∷ 139 ∷ 136 ∷ 137 ∷ 142 ∷ 143 ∷ 140 ∷ 141 ∷ 146 ∷ 147 ∷ 144 ∷ 145 ∷ 150 ∷ 151 ∷ 148 ∷ 149 ∷ 154 ∷ 155 ∷ 152 ∷ 153 ∷ 158 ∷ 159 ∷ 156 ∷ 157 ∷ 98 ∷ 99 ∷ 96 ∷ 97 ∷ 102 ∷ 103 ∷ 100 ∷ 101 ∷ 106 ∷ 107 ∷ 104 ∷ 105 ∷ 110 ∷ 111 ∷ 108 ∷ 109 ∷ 114 ∷ 115 ∷ 112 ∷ 113 ∷ 118 ∷ 119 ∷ 116 ∷ 117 ∷ 122 ∷ [])) (short_tag 137)) ∷ []) (Say.Drained 4)
    ∷ answered (Do.Post 0 0 (filled_line 67)) Say.Ok
    ∷ answered_with (Do.Drain 0) ((Seal 0 (ctr 0 90) (line_of (25 ∷ 24 ∷ 31 ∷ 30 ∷ 29 ∷ 28 ∷ 35 ∷ 34 ∷ 33 ∷ 32 ∷ 39 ∷ 38 ∷ 37 ∷ 36 ∷ 43 ∷ 42 ∷ 41 ∷ 40 ∷ 47 ∷ 46 ∷ 45 ∷ 44 ∷ 51 ∷ 50 ∷ 49 ∷ 48 ∷ 55 ∷ 54 ∷ 53 ∷ 52 ∷ 59 ∷ 58 ∷ 57 ∷ 56 ∷ 63 ∷ 62 ∷ 61 ∷ 60 ∷ 195 ∷ 194 ∷ 193 ∷ 192 ∷ 199 ∷ 198 ∷ 197 ∷ 196 ∷ 203 ∷ 202 ∷ 201 ∷ 200 ∷ 207 ∷ 206 ∷ 205 ∷ 204 ∷ 211 ∷ 210 ∷ 209 ∷ 208 ∷ 215 ∷ 214 ∷ 213 ∷ 212 ∷ 219 ∷ 218 ∷ [])) (short_tag 74)) ∷ []) (Say.Drained 4)
    ∷ answered (Do.Post 0 0 (filled_line 247)) Say.Ok
    ∷ answered_with (Do.Drain 0) ((Seal 0 (ctr 0 91) (line_of (172 ∷ 171 ∷ 170 ∷ 169 ∷ 168 ∷ 151 ∷ 150 ∷ 149 ∷ 148 ∷ 147 ∷ 146 ∷ 145 ∷ 144 ∷ 159 ∷ 158 ∷ 157 ∷ 156 ∷ 155 ∷ 154 ∷ 153 ∷ 152 ∷ 135 ∷ 134 ∷ 133 ∷ 132 ∷ 131 ∷ 130 ∷ 129 ∷ 128 ∷ 143 ∷ 142 ∷ 141 ∷ 140 ∷ 139 ∷ 138 ∷ 137 ∷ 136 ∷ 119 ∷ 118 ∷ 117 ∷ 116 ∷ 115 ∷ 114 ∷ 113 ∷ 112 ∷ 127 ∷ 126 ∷ 125 ∷ 124 ∷ 123 ∷ 122 ∷ 121 ∷ 120 ∷ 103 ∷ 102 ∷ 101 ∷ 100 ∷ 99 ∷ 98 ∷ 97 ∷ 96 ∷ 111 ∷ 110 ∷ 109 ∷ [])) (short_tag 139)) ∷ []) (Say.Drained 4)
    ∷ answered (Do.Post 0 0 (filled_line 117)) Say.Ok
    ∷ answered_with (Do.Drain 0) ((Seal 0 (ctr 0 92) (line_of (41 ∷ 40 ∷ 43 ∷ 42 ∷ 21 ∷ 20 ∷ 23 ∷ 22 ∷ 17 ∷ 16 ∷ 19 ∷ 18 ∷ 29 ∷ 28 ∷ 31 ∷ 30 ∷ 25 ∷ 24 ∷ 27 ∷ 26 ∷ 5 ∷ 4 ∷ 7 ∷ 6 ∷ 1 ∷ 0 ∷ 3 ∷ 2 ∷ 13 ∷ 12 ∷ 15 ∷ 14 ∷ 9 ∷ 8 ∷ 11 ∷ 10 ∷ 245 ∷ 244 ∷ 247 ∷ 246 ∷ 241 ∷ 240 ∷ 243 ∷ 242 ∷ 253 ∷ 252 ∷ 255 ∷ 254 ∷ 249 ∷ 248 ∷ 251 ∷ 250 ∷ 229 ∷ 228 ∷ 231 ∷ 230 ∷ 225 ∷ 224 ∷ 227 ∷ 226 ∷ 237 ∷ 236 ∷ 239 ∷ 238 ∷ [])) (short_tag 76)) ∷ []) (Say.Drained 5)
    ∷ answered (Do.Post 0 0 (filled_line 79)) Say.Ok
    ∷ answered_with (Do.Drain 0) ((Seal 0 (ctr 0 93) (line_of (18 ∷ 17 ∷ 16 ∷ 47 ∷ 46 ∷ 45 ∷ 44 ∷ 43 ∷ 42 ∷ 41 ∷ 40 ∷ 39 ∷ 38 ∷ 37 ∷ 36 ∷ 35 ∷ 34 ∷ 33 ∷ 32 ∷ 63 ∷ 62 ∷ 61 ∷ 60 ∷ 59 ∷ 58 ∷ 57 ∷ 56 ∷ 55 ∷ 54 ∷ 53 ∷ 52 ∷ 51 ∷ 50 ∷ 49 ∷ 48 ∷ 207 ∷ 206 ∷ 205 ∷ 204 ∷ 203 ∷ 202 ∷ 201 ∷ 200 ∷ 199 ∷ 198 ∷ 197 ∷ 196 ∷ 195 ∷ 194 ∷ 193 ∷ 192 ∷ 223 ∷ 222 ∷ 221 ∷ 220 ∷ 219 ∷ 218 ∷ 217 ∷ 216 ∷ 215 ∷ 214 ∷ 213 ∷ 212 ∷ 211 ∷ [])) (short_tag 141)) ∷ []) (Say.Drained 4)
    ∷ answered (Do.Post 0 0 (filled_line 189)) Say.Ok
    ∷ answered_with (Do.Drain 0) ((Seal 0 (ctr 0 94) (line_of (227 ∷ 226 ∷ 221 ∷ 220 ∷ 223 ∷ 222 ∷ 217 ∷ 216 ∷ 219 ∷ 218 ∷ 213 ∷ 212 ∷ 215 ∷ 214 ∷ 209 ∷ 208 ∷ 211 ∷ 210 ∷ 205 ∷ 204 ∷ 207 ∷ 206 ∷ 201 ∷ 200 ∷ 203 ∷ 202 ∷ 197 ∷ 196 ∷ 199 ∷ 198 ∷ 193 ∷ 192 ∷ 195 ∷ 194 ∷ 61 ∷ 60 ∷ 63 ∷ 62 ∷ 57 ∷ 56 ∷ 59 ∷ 58 ∷ 53 ∷ 52 ∷ 55 ∷ 54 ∷ 49 ∷ 48 ∷ 51 ∷ 50 ∷ 45 ∷ 44 ∷ 47 ∷ 46 ∷ 41 ∷ 40 ∷ 43 ∷ 42 ∷ 37 ∷ 36 ∷ 39 ∷ 38 ∷ 33 ∷ 32 ∷ [])) (short_tag 78)) ∷ []) (Say.Drained 4)
    ∷ answered (Do.Post 0 0 (filled_line 218)) Say.Ok
    ∷ answered_with (Do.Drain 0) ((Seal 0 (ctr 0 95) (line_of (133 ∷ 186 ∷ 187 ∷ 184 ∷ 185 ∷ 190 ∷ 191 ∷ 188 ∷ 189 ∷ 178 ∷ 179 ∷ 176 ∷ 177 ∷ 182 ∷ 183 ∷ 180 ∷ 181 ∷ 170 ∷ 171 ∷ 168 ∷ 169 ∷ 174 ∷ 175 ∷ 172 ∷ 173 ∷ 162 ∷ 163 ∷ 160 ∷ 161 ∷ 166 ∷ 167 ∷ 164 ∷ 165 ∷ 90 ∷ 91 ∷ 88 ∷ 89 ∷ 94 ∷ 95 ∷ 92 ∷ 93 ∷ 82 ∷ 83 ∷ 80 ∷ 81 ∷ 86 ∷ 87 ∷ 84 ∷ 85 ∷ 74 ∷ 75 ∷ 72 ∷ 73 ∷ 78 ∷ 79 ∷ 76 ∷ 77 ∷ 66 ∷ 67 ∷ 64 ∷ 65 ∷ 70 ∷ 71 ∷ 68 ∷ [])) (short_tag 143)) ∷ []) (Say.Drained 4)
    ∷ answered (Do.Post 0 0 (filled_line 158)) Say.Ok
    ∷ answered_with (Do.Drain 0) ((Seal 0 (ctr 0 96) (line_of (254 ∷ 255 ∷ 252 ∷ 253 ∷ 250 ∷ 251 ∷ 248 ∷ 249 ∷ 246 ∷ 247 ∷ 244 ∷ 245 ∷ 242 ∷ 243 ∷ 240 ∷ 241 ∷ 238 ∷ 239 ∷ 236 ∷ 237 ∷ 234 ∷ 235 ∷ 232 ∷ 233 ∷ 230 ∷ 231 ∷ 228 ∷ 229 ∷ 226 ∷ 227 ∷ 224 ∷ 225 ∷ 30 ∷ 31 ∷ 28 ∷ 29 ∷ 26 ∷ 27 ∷ 24 ∷ 25 ∷ 22 ∷ 23 ∷ 20 ∷ 21 ∷ 18 ∷ 19 ∷ 16 ∷ 17 ∷ 14 ∷ 15 ∷ 12 ∷ 13 ∷ 10 ∷ 11 ∷ 8 ∷ 9 ∷ 6 ∷ 7 ∷ 4 ∷ 5 ∷ 2 ∷ 3 ∷ 0 ∷ 1 ∷ [])) (short_tag 112)) ∷ []) (Say.Drained 5)
    ∷ answered (Do.Post 0 0 (filled_line 151)) Say.Ok
    ∷ answered_with (Do.Drain 0) ((Seal 0 (ctr 0 97) (line_of (246 ∷ 245 ∷ 244 ∷ 243 ∷ 242 ∷ 241 ∷ 240 ∷ 255 ∷ 254 ∷ 253 ∷ 252 ∷ 251 ∷ 250 ∷ 249 ∷ 248 ∷ 231 ∷ 230 ∷ 229 ∷ 228 ∷ 227 ∷ 226 ∷ 225 ∷ 224 ∷ 239 ∷ 238 ∷ 237 ∷ 236 ∷ 235 ∷ 234 ∷ 233 ∷ 232 ∷ 23 ∷ 22 ∷ 21 ∷ 20 ∷ 19 ∷ 18 ∷ 17 ∷ 16 ∷ 31 ∷ 30 ∷ 29 ∷ 28 ∷ 27 ∷ 26 ∷ 25 ∷ 24 ∷ 7 ∷ 6 ∷ 5 ∷ 4 ∷ 3 ∷ 2 ∷ 1 ∷ 0 ∷ 15 ∷ 14 ∷ 13 ∷ 12 ∷ 11 ∷ 10 ∷ 9 ∷ 8 ∷ 55 ∷ [])) (short_tag 177)) ∷ []) (Say.Drained 4)
    ∷ answered (Do.Post 0 0 (filled_line 177)) Say.Ok
    ∷ answered_with (Do.Drain 0) ((Seal 0 (ctr 0 98) (line_of (211 ∷ 210 ∷ 213 ∷ 212 ∷ 215 ∷ 214 ∷ 217 ∷ 216 ∷ 219 ∷ 218 ∷ 221 ∷ 220 ∷ 223 ∷ 222 ∷ 193 ∷ 192 ∷ 195 ∷ 194 ∷ 197 ∷ 196 ∷ 199 ∷ 198 ∷ 201 ∷ 200 ∷ 203 ∷ 202 ∷ 205 ∷ 204 ∷ 207 ∷ 206 ∷ 49 ∷ 48 ∷ 51 ∷ 50 ∷ 53 ∷ 52 ∷ 55 ∷ 54 ∷ 57 ∷ 56 ∷ 59 ∷ 58 ∷ 61 ∷ 60 ∷ 63 ∷ 62 ∷ 33 ∷ 32 ∷ 35 ∷ 34 ∷ 37 ∷ 36 ∷ 39 ∷ 38 ∷ 41 ∷ 40 ∷ 43 ∷ 42 ∷ 45 ∷ 44 ∷ 47 ∷ 46 ∷ 17 ∷ 16 ∷ [])) (short_tag 114)) ∷ []) (Say.Drained 4)
    ∷ answered (Do.Post 0 0 (filled_line 34)) Say.Ok
    ∷ answered_with (Do.Drain 0) ((Seal 0 (ctr 0 99) (line_of (65 ∷ 70 ∷ 71 ∷ 68 ∷ 69 ∷ 74 ∷ 75 ∷ 72 ∷ 73 ∷ 78 ∷ 79 ∷ 76 ∷ 77 ∷ 82 ∷ 83 ∷ 80 ∷ 81 ∷ 86 ∷ 87 ∷ 84 ∷ 85 ∷ 90 ∷ 91 ∷ 88 ∷ 89 ∷ 94 ∷ 95 ∷ 92 ∷ 93 ∷ 162 ∷ 163 ∷ 160 ∷ 161 ∷ 166 ∷ 167 ∷ 164 ∷ 165 ∷ 170 ∷ 171 ∷ 168 ∷ 169 ∷ 174 ∷ 175 ∷ 172 ∷ 173 ∷ 178 ∷ 179 ∷ 176 ∷ 177 ∷ 182 ∷ 183 ∷ 180 ∷ 181 ∷ 186 ∷ 187 ∷ 184 ∷ 185 ∷ 190 ∷ 191 ∷ 188 ∷ 189 ∷ 130 ∷ 131 ∷ 128 ∷ [])) (short_tag 179)) ∷ []) (Say.Drained 4)
    ∷ answered (Do.Post 0 0 (filled_line 222)) Say.Ok
    ∷ answered_with (Do.Drain 0) ((Seal 0 (ctr 0 100) (line_of (186 ∷ 187 ∷ 184 ∷ 185 ∷ 182 ∷ 183 ∷ 180 ∷ 181 ∷ 178 ∷ 179 ∷ 176 ∷ 177 ∷ 174 ∷ 175 ∷ 172 ∷ 173 ∷ 170 ∷ 171 ∷ 168 ∷ 169 ∷ 166 ∷ 167 ∷ 164 ∷ 165 ∷ 162 ∷ 163 ∷ 160 ∷ 161 ∷ 94 ∷ 95 ∷ 92 ∷ 93 ∷ 90 ∷ 91 ∷ 88 ∷ 89 ∷ 86 ∷ 87 ∷ 84 ∷ 85 ∷ 82 ∷ 83 ∷ 80 ∷ 81 ∷ 78 ∷ 79 ∷ 76 ∷ 77 ∷ 74 ∷ 75 ∷ 72 ∷ 73 ∷ 70 ∷ 71 ∷ 68 ∷ 69 ∷ 66 ∷ 67 ∷ 64 ∷ 65 ∷ 126 ∷ 127 ∷ 124 ∷ 125 ∷ [])) (short_tag 116)) ∷ []) (Say.Drained 5)
    ∷ answered (Do.Post 0 0 (filled_line 175)) Say.Ok
    ∷ answered_with (Do.Drain 0) ((Seal 0 (ctr 0 101) (line_of (202 ∷ 201 ∷ 200 ∷ 199 ∷ 198 ∷ 197 ∷ 196 ∷ 195 ∷ 194 ∷ 193 ∷ 192 ∷ 223 ∷ 222 ∷ 221 ∷ 220 ∷ 219 ∷ 218 ∷ 217 ∷ 216 ∷ 215 ∷ 214 ∷ 213 ∷ 212 ∷ 211 ∷ 210 ∷ 209 ∷ 208 ∷ 47 ∷ 46 ∷ 45 ∷ 44 ∷ 43 ∷ 42 ∷ 41 ∷ 40 ∷ 39 ∷ 38 ∷ 37 ∷ 36 ∷ 35 ∷ 34 ∷ 33 ∷ 32 ∷ 63 ∷ 62 ∷ 61 ∷ 60 ∷ 59 ∷ 58 ∷ 57 ∷ 56 ∷ 55 ∷ 54 ∷ 53 ∷ 52 ∷ 51 ∷ 50 ∷ 49 ∷ 48 ∷ 15 ∷ 14 ∷ 13 ∷ 12 ∷ 11 ∷ [])) (short_tag 181)) ∷ []) (Say.Drained 4)
    ∷ answered (Do.Post 0 0 (filled_line 36)) Say.Ok
    ∷ answered_with (Do.Drain 0) ((Seal 0 (ctr 0 102) (line_of (66 ∷ 67 ∷ range_with_len 76 4 ++ range_with_len 72 4 ++ range_with_len 84 4 ++ range_with_len 80 4 ++ range_with_len 92 4 ++ range_with_len 88 4 ++ range_with_len 164 4 ++ range_with_len 160 4 ++ range_with_len 172 4 ++ range_with_len 168 4 ++ range_with_len 180 4 ++ range_with_len 176 4 ++ range_with_len 188 4 ++ range_with_len 184 4 ++ range_with_len 132 4 ++ 128 ∷ 129 ∷ [])) (short_tag 118)) ∷ []) (Say.Drained 4)
    ∷ answered (Do.Post 0 0 (filled_line 198)) Say.Ok
    ∷ answered_with (Do.Drain 0) ((Seal 0 (ctr 0 103) (line_of (161 ∷ 174 ∷ 175 ∷ 172 ∷ 173 ∷ 170 ∷ 171 ∷ 168 ∷ 169 ∷ 182 ∷ 183 ∷ 180 ∷ 181 ∷ 178 ∷ 179 ∷ 176 ∷ 177 ∷ 190 ∷ 191 ∷ 188 ∷ 189 ∷ 186 ∷ 187 ∷ 184 ∷ 185 ∷ 70 ∷ 71 ∷ 68 ∷ 69 ∷ 66 ∷ 67 ∷ 64 ∷ 65 ∷ 78 ∷ 79 ∷ 76 ∷ 77 ∷ 74 ∷ 75 ∷ 72 ∷ 73 ∷ 86 ∷ 87 ∷ 84 ∷ 85 ∷ 82 ∷ 83 ∷ 80 ∷ 81 ∷ 94 ∷ 95 ∷ 92 ∷ 93 ∷ 90 ∷ 91 ∷ 88 ∷ 89 ∷ 102 ∷ 103 ∷ 100 ∷ 101 ∷ 98 ∷ 99 ∷ 96 ∷ [])) (short_tag 183)) ∷ []) (Say.Drained 4)
    ∷ answered (Do.Post 0 0 (filled_line 75)) Say.Ok
    ∷ answered_with (Do.Drain 0) ((Seal 0 (ctr 0 104) (line_of (35 ∷ 34 ∷ 33 ∷ 32 ∷ 39 ∷ 38 ∷ 37 ∷ 36 ∷ 59 ∷ 58 ∷ 57 ∷ 56 ∷ 63 ∷ 62 ∷ 61 ∷ 60 ∷ 51 ∷ 50 ∷ 49 ∷ 48 ∷ 55 ∷ 54 ∷ 53 ∷ 52 ∷ 203 ∷ 202 ∷ 201 ∷ 200 ∷ 207 ∷ 206 ∷ 205 ∷ 204 ∷ 195 ∷ 194 ∷ 193 ∷ 192 ∷ 199 ∷ 198 ∷ 197 ∷ 196 ∷ 219 ∷ 218 ∷ 217 ∷ 216 ∷ 223 ∷ 222 ∷ 221 ∷ 220 ∷ 211 ∷ 210 ∷ 209 ∷ 208 ∷ 215 ∷ 214 ∷ 213 ∷ 212 ∷ 235 ∷ 234 ∷ 233 ∷ 232 ∷ 239 ∷ 238 ∷ 237 ∷ 236 ∷ [])) (short_tag 120)) ∷ []) (Say.Drained 5)
    ∷ answered (Do.Post 0 0 (filled_line 121)) Say.Ok
    ∷ answered_with (Do.Drain 0) ((Seal 0 (ctr 0 105) (line_of (16 ∷ 19 ∷ 18 ∷ 21 ∷ 20 ∷ 23 ∷ 22 ∷ 9 ∷ 8 ∷ 11 ∷ 10 ∷ 13 ∷ 12 ∷ 15 ∷ 14 ∷ 1 ∷ 0 ∷ 3 ∷ 2 ∷ 5 ∷ 4 ∷ 7 ∷ 6 ∷ 249 ∷ 248 ∷ 251 ∷ 250 ∷ 253 ∷ 252 ∷ 255 ∷ 254 ∷ 241 ∷ 240 ∷ 243 ∷ 242 ∷ 245 ∷ 244 ∷ 247 ∷ 246 ∷ 233 ∷ 232 ∷ 235 ∷ 234 ∷ 237 ∷ 236 ∷ 239 ∷ 238 ∷ 225 ∷ 224 ∷ 227 ∷ 226 ∷ 229 ∷ 228 ∷ 231 ∷ 230 ∷ 217 ∷ 216 ∷ 219 ∷ 218 ∷ 221 ∷ 220 ∷ 223 ∷ 222 ∷ 209 ∷ [])) (short_tag 185)) ∷ []) (Say.Drained 4)
    ∷ answered (Do.Post 0 0 (filled_line 178)) Say.Ok
    ∷ answered_with (Do.Drain 0) ((Seal 0 (ctr 0 106) (line_of (216 ∷ 217 ∷ 222 ∷ 223 ∷ 220 ∷ 221 ∷ 194 ∷ 195 ∷ 192 ∷ 193 ∷ 198 ∷ 199 ∷ 196 ∷ 197 ∷ 202 ∷ 203 ∷ 200 ∷ 201 ∷ 206 ∷ 207 ∷ 204 ∷ 205 ∷ 50 ∷ 51 ∷ 48 ∷ 49 ∷ 54 ∷ 55 ∷ 52 ∷ 53 ∷ 58 ∷ 59 ∷ 56 ∷ 57 ∷ 62 ∷ 63 ∷ 60 ∷ 61 ∷ 34 ∷ 35 ∷ 32 ∷ 33 ∷ 38 ∷ 39 ∷ 36 ∷ 37 ∷ 42 ∷ 43 ∷ 40 ∷ 41 ∷ 46 ∷ 47 ∷ 44 ∷ 45 ∷ 18 ∷ 19 ∷ 16 ∷ 17 ∷ 22 ∷ 23 ∷ 20 ∷ 21 ∷ 26 ∷ 27 ∷ [])) (short_tag 122)) ∷ []) (Say.Drained 4)
    ∷ answered (Do.Post 0 0 (filled_line 97)) Say.Ok
    ∷ answered_with (Do.Drain 0) ((Seal 0 (ctr 0 107) (line_of (10 ∷ 13 ∷ 12 ∷ 15 ∷ 14 ∷ 17 ∷ 16 ∷ 19 ∷ 18 ∷ 21 ∷ 20 ∷ 23 ∷ 22 ∷ 25 ∷ 24 ∷ 27 ∷ 26 ∷ 29 ∷ 28 ∷ 31 ∷ 30 ∷ 225 ∷ 224 ∷ 227 ∷ 226 ∷ 229 ∷ 228 ∷ 231 ∷ 230 ∷ 233 ∷ 232 ∷ 235 ∷ 234 ∷ 237 ∷ 236 ∷ 239 ∷ 238 ∷ 241 ∷ 240 ∷ 243 ∷ 242 ∷ 245 ∷ 244 ∷ 247 ∷ 246 ∷ 249 ∷ 248 ∷ 251 ∷ 250 ∷ 253 ∷ 252 ∷ 255 ∷ 254 ∷ 193 ∷ 192 ∷ 195 ∷ 194 ∷ 197 ∷ 196 ∷ 199 ∷ 198 ∷ 201 ∷ 200 ∷ 203 ∷ [])) (short_tag 187)) ∷ []) (Say.Drained 4)
    ∷ answered (Do.Post 0 0 (filled_line 6)) Say.Ok
    ∷ answered_with (Do.Drain 0) ((Seal 0 (ctr 0 108) (line_of (106 ∷ 107 ∷ 104 ∷ 105 ∷ 118 ∷ 119 ∷ 116 ∷ 117 ∷ 114 ∷ 115 ∷ 112 ∷ 113 ∷ 126 ∷ 127 ∷ 124 ∷ 125 ∷ 122 ∷ 123 ∷ 120 ∷ 121 ∷ 134 ∷ 135 ∷ 132 ∷ 133 ∷ 130 ∷ 131 ∷ 128 ∷ 129 ∷ 142 ∷ 143 ∷ 140 ∷ 141 ∷ 138 ∷ 139 ∷ 136 ∷ 137 ∷ 150 ∷ 151 ∷ 148 ∷ 149 ∷ 146 ∷ 147 ∷ 144 ∷ 145 ∷ 158 ∷ 159 ∷ 156 ∷ 157 ∷ 154 ∷ 155 ∷ 152 ∷ 153 ∷ 166 ∷ 167 ∷ 164 ∷ 165 ∷ 162 ∷ 163 ∷ 160 ∷ 161 ∷ 174 ∷ 175 ∷ 172 ∷ 173 ∷ [])) (short_tag 124)) ∷ []) (Say.Drained 5)
    ∷ answered (Do.Post 0 0 (filled_line 18)) Say.Ok
    ∷ answered_with (Do.Drain 0) ((Seal 0 (ctr 0 109) (line_of (127 ∷ 124 ∷ 125 ∷ 98 ∷ 99 ∷ 96 ∷ 97 ∷ 102 ∷ 103 ∷ 100 ∷ 101 ∷ 106 ∷ 107 ∷ 104 ∷ 105 ∷ 110 ∷ 111 ∷ 108 ∷ 109 ∷ 146 ∷ 147 ∷ 144 ∷ 145 ∷ 150 ∷ 151 ∷ 148 ∷ 149 ∷ 154 ∷ 155 ∷ 152 ∷ 153 ∷ 158 ∷ 159 ∷ 156 ∷ 157 ∷ 130 ∷ 131 ∷ 128 ∷ 129 ∷ 134 ∷ 135 ∷ 132 ∷ 133 ∷ 138 ∷ 139 ∷ 136 ∷ 137 ∷ 142 ∷ 143 ∷ 140 ∷ 141 ∷ 178 ∷ 179 ∷ 176 ∷ 177 ∷ 182 ∷ 183 ∷ 180 ∷ 181 ∷ 186 ∷ 187 ∷ 184 ∷ 185 ∷ 190 ∷ [])) (short_tag 189)) ∷ []) (Say.Drained 4)
    ∷ answered (Do.Post 0 0 (filled_line 213)) Say.Ok
    ∷ answered_with (Do.Drain 0) ((Seal 0 (ctr 0 110) (line_of (187 ∷ 186 ∷ 165 ∷ 164 ∷ 167 ∷ 166 ∷ 161 ∷ 160 ∷ 163 ∷ 162 ∷ 173 ∷ 172 ∷ 175 ∷ 174 ∷ 169 ∷ 168 ∷ 171 ∷ 170 ∷ 85 ∷ 84 ∷ 87 ∷ 86 ∷ 81 ∷ 80 ∷ 83 ∷ 82 ∷ 93 ∷ 92 ∷ 95 ∷ 94 ∷ 89 ∷ 88 ∷ 91 ∷ 90 ∷ 69 ∷ 68 ∷ 71 ∷ 70 ∷ 65 ∷ 64 ∷ 67 ∷ 66 ∷ 77 ∷ 76 ∷ 79 ∷ 78 ∷ 73 ∷ 72 ∷ 75 ∷ 74 ∷ 117 ∷ 116 ∷ 119 ∷ 118 ∷ 113 ∷ 112 ∷ 115 ∷ 114 ∷ 125 ∷ 124 ∷ 127 ∷ 126 ∷ 121 ∷ 120 ∷ [])) (short_tag 126)) ∷ []) (Say.Drained 4)
    ∷ answered (Do.Post 0 0 (filled_line 12)) Say.Ok
    ∷ answered_with (Do.Drain 0) ((Seal 0 (ctr 0 111) (line_of (99 ∷ range_with_len 124 4 ++ range_with_len 120 4 ++ range_with_len 116 4 ++ range_with_len 112 4 ++ range_with_len 140 4 ++ range_with_len 136 4 ++ range_with_len 132 4 ++ range_with_len 128 4 ++ range_with_len 156 4 ++ range_with_len 152 4 ++ range_with_len 148 4 ++ range_with_len 144 4 ++ range_with_len 172 4 ++ range_with_len 168 4 ++ range_with_len 164 4 ++ 160 ∷ 161 ∷ 162 ∷ [])) (short_tag 191)) ∷ []) (Say.Drained 4)
    ∷ answered (Do.Post 0 0 (filled_line 31)) Say.Ok
    ∷ answered_with (Do.Drain 0) ((Seal 0 (ctr 0 112) (line_of (111 ∷ 110 ∷ 109 ∷ 108 ∷ 107 ∷ 106 ∷ 105 ∷ 104 ∷ 103 ∷ 102 ∷ 101 ∷ 100 ∷ 99 ∷ 98 ∷ 97 ∷ 96 ∷ 159 ∷ 158 ∷ 157 ∷ 156 ∷ 155 ∷ 154 ∷ 153 ∷ 152 ∷ 151 ∷ 150 ∷ 149 ∷ 148 ∷ 147 ∷ 146 ∷ 145 ∷ 144 ∷ 143 ∷ 142 ∷ 141 ∷ 140 ∷ 139 ∷ 138 ∷ 137 ∷ 136 ∷ 135 ∷ 134 ∷ 133 ∷ 132 ∷ 131 ∷ 130 ∷ 129 ∷ 128 ∷ 191 ∷ 190 ∷ 189 ∷ 188 ∷ 187 ∷ 186 ∷ 185 ∷ 184 ∷ 183 ∷ 182 ∷ 181 ∷ 180 ∷ 179 ∷ 178 ∷ 177 ∷ 176 ∷ [])) (short_tag 96)) ∷ []) (Say.Drained 5)
    ∷ answered (Do.Post 0 0 (filled_line 76)) Say.Ok
    ∷ answered_with (Do.Drain 0) ((Seal 0 (ctr 0 113) (line_of (61 ∷ 62 ∷ 63 ∷ range_with_len 56 4 ++ range_with_len 52 4 ++ range_with_len 48 4 ++ range_with_len 204 4 ++ range_with_len 200 4 ++ range_with_len 196 4 ++ range_with_len 192 4 ++ range_with_len 220 4 ++ range_with_len 216 4 ++ range_with_len 212 4 ++ range_with_len 208 4 ++ range_with_len 236 4 ++ range_with_len 232 4 ++ range_with_len 228 4 ++ range_with_len 224 4 ++ 252 ∷ [])) (short_tag 161)) ∷ []) (Say.Drained 4)
    ∷ answered (Do.Post 0 0 (filled_line 225)) Say.Ok
    ∷ answered_with (Do.Drain 0) ((Seal 0 (ctr 0 114) (line_of (147 ∷ 146 ∷ 149 ∷ 148 ∷ 151 ∷ 150 ∷ 153 ∷ 152 ∷ 155 ∷ 154 ∷ 157 ∷ 156 ∷ 159 ∷ 158 ∷ 97 ∷ 96 ∷ 99 ∷ 98 ∷ 101 ∷ 100 ∷ 103 ∷ 102 ∷ 105 ∷ 104 ∷ 107 ∷ 106 ∷ 109 ∷ 108 ∷ 111 ∷ 110 ∷ 113 ∷ 112 ∷ 115 ∷ 114 ∷ 117 ∷ 116 ∷ 119 ∷ 118 ∷ 121 ∷ 120 ∷ 123 ∷ 122 ∷ 125 ∷ 124 ∷ 127 ∷ 126 ∷ 65 ∷ 64 ∷ 67 ∷ 66 ∷ 69 ∷ 68 ∷ 71 ∷ 70 ∷ 73 ∷ 72 ∷ 75 ∷ 74 ∷ 77 ∷ 76 ∷ 79 ∷ 78 ∷ 81 ∷ 80 ∷ [])) (short_tag 98)) ∷ []) (Say.Drained 4)
    ∷ answered (Do.Post 0 0 (filled_line 36)) Say.Ok
    ∷ answered_with (Do.Drain 0) ((Seal 0 (ctr 0 115) (line_of (87 ∷ range_with_len 80 4 ++ range_with_len 92 4 ++ range_with_len 88 4 ++ range_with_len 164 4 ++ range_with_len 160 4 ++ range_with_len 172 4 ++ range_with_len 168 4 ++ range_with_len 180 4 ++ range_with_len 176 4 ++ range_with_len 188 4 ++ range_with_len 184 4 ++ range_with_len 132 4 ++ range_with_len 128 4 ++ range_with_len 140 4 ++ range_with_len 136 4 ++ 148 ∷ 149 ∷ 150 ∷ [])) (short_tag 163)) ∷ []) (Say.Drained 4)
    ∷ answered (Do.Post 0 0 (filled_line 183)) Say.Ok
    ∷ answered_with (Do.Drain 0) ((Seal 0 (ctr 0 116) (line_of (195 ∷ 194 ∷ 193 ∷ 192 ∷ 207 ∷ 206 ∷ 205 ∷ 204 ∷ 203 ∷ 202 ∷ 201 ∷ 200 ∷ 55 ∷ 54 ∷ 53 ∷ 52 ∷ 51 ∷ 50 ∷ 49 ∷ 48 ∷ 63 ∷ 62 ∷ 61 ∷ 60 ∷ 59 ∷ 58 ∷ 57 ∷ 56 ∷ 39 ∷ 38 ∷ 37 ∷ 36 ∷ 35 ∷ 34 ∷ 33 ∷ 32 ∷ 47 ∷ 46 ∷ 45 ∷ 44 ∷ 43 ∷ 42 ∷ 41 ∷ 40 ∷ 23 ∷ 22 ∷ 21 ∷ 20 ∷ 19 ∷ 18 ∷ 17 ∷ 16 ∷ 31 ∷ 30 ∷ 29 ∷ 28 ∷ 27 ∷ 26 ∷ 25 ∷ 24 ∷ 7 ∷ 6 ∷ 5 ∷ 4 ∷ [])) (short_tag 100)) ∷ []) (Say.Drained 5)
    ∷ answered (Do.Post 0 0 (filled_line 166)) Say.Ok
    ∷ answered_with (Do.Drain 0) ((Seal 0 (ctr 0 117) (line_of (211 ∷ 208 ∷ 209 ∷ 222 ∷ 223 ∷ 220 ∷ 221 ∷ 218 ∷ 219 ∷ 216 ∷ 217 ∷ 38 ∷ 39 ∷ 36 ∷ 37 ∷ 34 ∷ 35 ∷ 32 ∷ 33 ∷ 46 ∷ 47 ∷ 44 ∷ 45 ∷ 42 ∷ 43 ∷ 40 ∷ 41 ∷ 54 ∷ 55 ∷ 52 ∷ 53 ∷ 50 ∷ 51 ∷ 48 ∷ 49 ∷ 62 ∷ 63 ∷ 60 ∷ 61 ∷ 58 ∷ 59 ∷ 56 ∷ 57 ∷ 6 ∷ 7 ∷ 4 ∷ 5 ∷ 2 ∷ 3 ∷ 0 ∷ 1 ∷ 14 ∷ 15 ∷ 12 ∷ 13 ∷ 10 ∷ 11 ∷ 8 ∷ 9 ∷ 22 ∷ 23 ∷ 20 ∷ 21 ∷ 18 ∷ [])) (short_tag 165)) ∷ []) (Say.Drained 4)
    ∷ answered (Do.Post 0 0 (filled_line 77)) Say.Ok
    ∷ answered_with (Do.Drain 0) ((Seal 0 (ctr 0 118) (line_of (59 ∷ 58 ∷ 53 ∷ 52 ∷ 55 ∷ 54 ∷ 49 ∷ 48 ∷ 51 ∷ 50 ∷ 205 ∷ 204 ∷ 207 ∷ 206 ∷ 201 ∷ 200 ∷ 203 ∷ 202 ∷ 197 ∷ 196 ∷ 199 ∷ 198 ∷ 193 ∷ 192 ∷ 195 ∷ 194 ∷ 221 ∷ 220 ∷ 223 ∷ 222 ∷ 217 ∷ 216 ∷ 219 ∷ 218 ∷ 213 ∷ 212 ∷ 215 ∷ 214 ∷ 209 ∷ 208 ∷ 211 ∷ 210 ∷ 237 ∷ 236 ∷ 239 ∷ 238 ∷ 233 ∷ 232 ∷ 235 ∷ 234 ∷ 229 ∷ 228 ∷ 231 ∷ 230 ∷ 225 ∷ 224 ∷ 227 ∷ 226 ∷ 253 ∷ 252 ∷ 255 ∷ 254 ∷ 249 ∷ 248 ∷ [])) (short_tag 102)) ∷ []) (Say.Drained 4)
    ∷ answered (Do.Post 0 0 (filled_line 51)) Say.Ok
    ∷ answered_with (Do.Drain 0) ((Seal 0 (ctr 0 119) (line_of (68 ∷ 75 ∷ 74 ∷ 73 ∷ 72 ∷ 79 ∷ 78 ∷ 77 ∷ 76 ∷ 179 ∷ 178 ∷ 177 ∷ 176 ∷ 183 ∷ 182 ∷ 181 ∷ 180 ∷ 187 ∷ 186 ∷ 185 ∷ 184 ∷ 191 ∷ 190 ∷ 189 ∷ 188 ∷ 163 ∷ 162 ∷ 161 ∷ 160 ∷ 167 ∷ 166 ∷ 165 ∷ 164 ∷ 171 ∷ 170 ∷ 169 ∷ 168 ∷ 175 ∷ 174 ∷ 173 ∷ 172 ∷ 147 ∷ 146 ∷ 145 ∷ 144 ∷ 151 ∷ 150 ∷ 149 ∷ 148 ∷ 155 ∷ 154 ∷ 153 ∷ 152 ∷ 159 ∷ 158 ∷ 157 ∷ 156 ∷ 131 ∷ 130 ∷ 129 ∷ 128 ∷ 135 ∷ 134 ∷ 133 ∷ [])) (short_tag 167)) ∷ []) (Say.Drained 4)
    ∷ answered (Do.Post 0 0 (filled_line 14)) Say.Ok
    ∷ answered_with (Do.Drain 0) ((Seal 0 (ctr 0 120) (line_of (118 ∷ 119 ∷ 116 ∷ 117 ∷ 114 ∷ 115 ∷ 112 ∷ 113 ∷ 142 ∷ 143 ∷ 140 ∷ 141 ∷ 138 ∷ 139 ∷ 136 ∷ 137 ∷ 134 ∷ 135 ∷ 132 ∷ 133 ∷ 130 ∷ 131 ∷ 128 ∷ 129 ∷ 158 ∷ 159 ∷ 156 ∷ 157 ∷ 154 ∷ 155 ∷ 152 ∷ 153 ∷ 150 ∷ 151 ∷ 148 ∷ 149 ∷ 146 ∷ 147 ∷ 144 ∷ 145 ∷ 174 ∷ 175 ∷ 172 ∷ 173 ∷ 170 ∷ 171 ∷ 168 ∷ 169 ∷ 166 ∷ 167 ∷ 164 ∷ 165 ∷ 162 ∷ 163 ∷ 160 ∷ 161 ∷ 190 ∷ 191 ∷ 188 ∷ 189 ∷ 186 ∷ 187 ∷ 184 ∷ 185 ∷ [])) (short_tag 104)) ∷ []) (Say.Drained 5)
    ∷ answered (Do.Post 0 0 (filled_line 140)) Say.Ok
    ∷ answered_with (Do.Drain 0) ((Seal 0 (ctr 0 121) (line_of (245 ∷ 246 ∷ 247 ∷ range_with_len 240 4 ++ range_with_len 12 4 ++ range_with_len 8 4 ++ range_with_len 4 4 ++ range_with_len 0 4 ++ range_with_len 28 4 ++ range_with_len 24 4 ++ range_with_len 20 4 ++ range_with_len 16 4 ++ range_with_len 44 4 ++ range_with_len 40 4 ++ range_with_len 36 4 ++ range_with_len 32 4 ++ range_with_len 60 4 ++ range_with_len 56 4 ++ 52 ∷ [])) (short_tag 169)) ∷ []) (Say.Drained 4)
    ∷ answered (Do.Post 0 0 (filled_line 237)) Say.Ok
    ∷ answered_with (Do.Drain 0) ((Seal 0 (ctr 0 122) (line_of (151 ∷ 150 ∷ 145 ∷ 144 ∷ 147 ∷ 146 ∷ 109 ∷ 108 ∷ 111 ∷ 110 ∷ 105 ∷ 104 ∷ 107 ∷ 106 ∷ 101 ∷ 100 ∷ 103 ∷ 102 ∷ 97 ∷ 96 ∷ 99 ∷ 98 ∷ 125 ∷ 124 ∷ 127 ∷ 126 ∷ 121 ∷ 120 ∷ 123 ∷ 122 ∷ 117 ∷ 116 ∷ 119 ∷ 118 ∷ 113 ∷ 112 ∷ 115 ∷ 114 ∷ 77 ∷ 76 ∷ 79 ∷ 78 ∷ 73 ∷ 72 ∷ 75 ∷ 74 ∷ 69 ∷ 68 ∷ 71 ∷ 70 ∷ 65 ∷ 64 ∷ 67 ∷ 66 ∷ 93 ∷ 92 ∷ 95 ∷ 94 ∷ 89 ∷ 88 ∷ 91 ∷ 90 ∷ 85 ∷ 84 ∷ [])) (short_tag 106)) ∷ []) (Say.Drained 4)
    ∷ answered (Do.Post 0 0 (filled_line 54)) Say.Ok
    ∷ answered_with (Do.Drain 0) ((Seal 0 (ctr 0 123) (line_of (77 ∷ 74 ∷ 75 ∷ 72 ∷ 73 ∷ 182 ∷ 183 ∷ 180 ∷ 181 ∷ 178 ∷ 179 ∷ 176 ∷ 177 ∷ 190 ∷ 191 ∷ 188 ∷ 189 ∷ 186 ∷ 187 ∷ 184 ∷ 185 ∷ 166 ∷ 167 ∷ 164 ∷ 165 ∷ 162 ∷ 163 ∷ 160 ∷ 161 ∷ 174 ∷ 175 ∷ 172 ∷ 173 ∷ 170 ∷ 171 ∷ 168 ∷ 169 ∷ 150 ∷ 151 ∷ 148 ∷ 149 ∷ 146 ∷ 147 ∷ 144 ∷ 145 ∷ 158 ∷ 159 ∷ 156 ∷ 157 ∷ 154 ∷ 155 ∷ 152 ∷ 153 ∷ 134 ∷ 135 ∷ 132 ∷ 133 ∷ 130 ∷ 131 ∷ 128 ∷ 129 ∷ 142 ∷ 143 ∷ 140 ∷ [])) (short_tag 171)) ∷ []) (Say.Drained 4)
    ∷ answered (Do.Post 0 0 (filled_line 188)) Say.Ok
    ∷ answered_with (Do.Drain 0) ((Seal 0 (ctr 0 124) (line_of (range_with_len 192 4 ++ range_with_len 60 4 ++ range_with_len 56 4 ++ range_with_len 52 4 ++ range_with_len 48 4 ++ range_with_len 44 4 ++ range_with_len 40 4 ++ range_with_len 36 4 ++ range_with_len 32 4 ++ range_with_len 28 4 ++ range_with_len 24 4 ++ range_with_len 20 4 ++ range_with_len 16 4 ++ range_with_len 12 4 ++ range_with_len 8 4 ++ range_with_len 4 4)) (short_tag 108)) ∷ []) (Say.Drained 5)
    ∷ answered (Do.Post 0 0 (filled_line 237)) Say.Ok
    ∷ answered_with (Do.Drain 0) ((Seal 0 (ctr 0 125) (line_of (144 ∷ 147 ∷ 146 ∷ 109 ∷ 108 ∷ 111 ∷ 110 ∷ 105 ∷ 104 ∷ 107 ∷ 106 ∷ 101 ∷ 100 ∷ 103 ∷ 102 ∷ 97 ∷ 96 ∷ 99 ∷ 98 ∷ 125 ∷ 124 ∷ 127 ∷ 126 ∷ 121 ∷ 120 ∷ 123 ∷ 122 ∷ 117 ∷ 116 ∷ 119 ∷ 118 ∷ 113 ∷ 112 ∷ 115 ∷ 114 ∷ 77 ∷ 76 ∷ 79 ∷ 78 ∷ 73 ∷ 72 ∷ 75 ∷ 74 ∷ 69 ∷ 68 ∷ 71 ∷ 70 ∷ 65 ∷ 64 ∷ 67 ∷ 66 ∷ 93 ∷ 92 ∷ 95 ∷ 94 ∷ 89 ∷ 88 ∷ 91 ∷ 90 ∷ 85 ∷ 84 ∷ 87 ∷ 86 ∷ 81 ∷ [])) (short_tag 173)) ∷ []) (Say.Drained 4)
    ∷ answered (Do.Post 0 0 (filled_line 175)) Say.Ok
    ∷ answered_with (Do.Drain 0) ((Seal 0 (ctr 0 126) (line_of (209 ∷ 208 ∷ 47 ∷ 46 ∷ 45 ∷ 44 ∷ 43 ∷ 42 ∷ 41 ∷ 40 ∷ 39 ∷ 38 ∷ 37 ∷ 36 ∷ 35 ∷ 34 ∷ 33 ∷ 32 ∷ 63 ∷ 62 ∷ 61 ∷ 60 ∷ 59 ∷ 58 ∷ 57 ∷ 56 ∷ 55 ∷ 54 ∷ 53 ∷ 52 ∷ 51 ∷ 50 ∷ 49 ∷ 48 ∷ 15 ∷ 14 ∷ 13 ∷ 12 ∷ 11 ∷ 10 ∷ 9 ∷ 8 ∷ 7 ∷ 6 ∷ 5 ∷ 4 ∷ 3 ∷ 2 ∷ 1 ∷ 0 ∷ 31 ∷ 30 ∷ 29 ∷ 28 ∷ 27 ∷ 26 ∷ 25 ∷ 24 ∷ 23 ∷ 22 ∷ 21 ∷ 20 ∷ 19 ∷ 18 ∷ [])) (short_tag 110)) ∷ []) (Say.Drained 4)
    ∷ answered (Do.Drain 0) Say.Empty
    ∷ answered Do.Snap Say.Ok
    ∷ answered (Do.Post 0 2 (filled_line 120)) Say.Ok
    ∷ answered Do.Turn Say.Idle
    ∷ answered (Do.Peek 4) (Say.Raw (line_of (range_with_len 4 64)))
    ∷ answered (Do.Loss 3) Say.Range
    ∷ answered (Do.Post 0 0 (filled_line 46)) Say.Ok
    ∷ answered (Do.Flip 1 217) Say.Ok
    ∷ answered (Do.Peek 38) (Say.Raw (line_of (range_with_len 38 64)))
    ∷ answered (Do.Post 0 0 (filled_line 224)) Say.Ok
    ∷ answered (Do.Part 0 1 27 9 (line_of (replicate 9 13 ++ replicate 55 0))) Say.Ok
    ∷ answered (Do.Read 1 2) (Say.Got (filled_line 0) 0)
    ∷ answered_with (Do.Fence 0) ((Seal 2 (ctr 0 1) (line_of (range_with_len 123 5 ++ range_with_len 112 8 ++ range_with_len 104 8 ++ range_with_len 96 8 ++ range_with_len 88 8 ++ range_with_len 80 8 ++ range_with_len 72 8 ++ range_with_len 64 8 ++ 56 ∷ 57 ∷ 58 ∷ [])) (short_tag 83)) ∷ (Seal 0 (ctr 0 127) (line_of (81 ∷ 174 ∷ 175 ∷ 172 ∷ 173 ∷ 170 ∷ 171 ∷ 168 ∷ 169 ∷ 166 ∷ 167 ∷ 164 ∷ 165 ∷ 162 ∷ 163 ∷ 160 ∷ 161 ∷ 190 ∷ 191 ∷ 188 ∷ 189 ∷ 186 ∷ 187 ∷ 184 ∷ 185 ∷ 182 ∷ 183 ∷ 180 ∷ 181 ∷ 178 ∷ 179 ∷ 176 ∷ 177 ∷ 142 ∷ 143 ∷ 140 ∷ 141 ∷ 138 ∷ 139 ∷ 136 ∷ 137 ∷ 134 ∷ 135 ∷ 132 ∷ 133 ∷ 130 ∷ 131 ∷ 128 ∷ 129 ∷ 158 ∷ 159 ∷ 156 ∷ 157 ∷ 154 ∷ 155 ∷ 152 ∷ 153 ∷ 150 ∷ 151 ∷ 148 ∷ 149 ∷ 146 ∷ 147 ∷ 144 ∷ [])) (short_tag 175)) ∷ (Begin 0) ∷ (Seal 0 (ctr 1 1) (line_of (range_with_len 226 30 ++ range_with_len 192 32 ++ 160 ∷ 161 ∷ [])) (short_tag 16)) ∷ []) (Say.Refused (Some 3) (Place.Line 1) 15)
    ∷ answered (Do.Post 0 0 (filled_line 11)) Say.Ok
    ∷ answered (Do.Post 1 1 (filled_line 250)) Say.Ok
    ∷ answered_with (Do.Drain 0) ((Seal 0 (ctr 1 2) (line_of (8 ∷ 15 ∷ 14 ∷ 13 ∷ 12 ∷ 3 ∷ 2 ∷ 1 ∷ 0 ∷ 7 ∷ 6 ∷ 5 ∷ 4 ∷ 27 ∷ 26 ∷ 25 ∷ 24 ∷ 31 ∷ 30 ∷ 29 ∷ 28 ∷ 19 ∷ 18 ∷ 17 ∷ 16 ∷ 23 ∷ 22 ∷ 21 ∷ 20 ∷ 43 ∷ 42 ∷ 41 ∷ 40 ∷ 47 ∷ 46 ∷ 45 ∷ 44 ∷ 35 ∷ 34 ∷ 33 ∷ 32 ∷ 39 ∷ 38 ∷ 37 ∷ 36 ∷ 59 ∷ 58 ∷ 57 ∷ 56 ∷ 63 ∷ 62 ∷ 61 ∷ 60 ∷ 51 ∷ 50 ∷ 49 ∷ 48 ∷ 55 ∷ 54 ∷ 53 ∷ 52 ∷ 75 ∷ 74 ∷ 73 ∷ [])) (short_tag 83)) ∷ []) (Say.Drained 4)
    ∷ answered Do.On Say.Already
    ∷ answered (Do.Loss 2) (Say.LossSet 2)
    ∷ answered (Do.Post 0 0 (filled_line 50)) Say.Ok
    ∷ answered (Do.Peek 57) (Say.Raw (line_of (range_with_len 57 64)))
    ∷ answered (Do.Post 0 0 (filled_line 131)) Say.Ok
    ∷ answered (Do.Part 0 2 26 33 (line_of (replicate 33 172 ++ replicate 31 0))) Say.Ok
    ∷ answered (Do.Read 0 2) (Say.Got (line_of (replicate 26 120 ++ replicate 33 172 ++ replicate 5 120)) 0)
    ∷ answered Do.Flush (Say.Flushed 0 1)
    ∷ answered (Do.Post 0 1 (filled_line 215)) Say.Ok
    ∷ answered_with (Do.Drain 1) ((Seal 1 (ctr 1 1) (line_of (249 ∷ 254 ∷ 255 ∷ 252 ∷ 253 ∷ 242 ∷ 243 ∷ 240 ∷ 241 ∷ 246 ∷ 247 ∷ 244 ∷ 245 ∷ 234 ∷ 235 ∷ 232 ∷ 233 ∷ 238 ∷ 239 ∷ 236 ∷ 237 ∷ 226 ∷ 227 ∷ 224 ∷ 225 ∷ 230 ∷ 231 ∷ 228 ∷ 229 ∷ 218 ∷ 219 ∷ 216 ∷ 217 ∷ 222 ∷ 223 ∷ 220 ∷ 221 ∷ 210 ∷ 211 ∷ 208 ∷ 209 ∷ 214 ∷ 215 ∷ 212 ∷ 213 ∷ 202 ∷ 203 ∷ 200 ∷ 201 ∷ 206 ∷ 207 ∷ 204 ∷ 205 ∷ 194 ∷ 195 ∷ 192 ∷ 193 ∷ 198 ∷ 199 ∷ 196 ∷ 197 ∷ 186 ∷ 187 ∷ 184 ∷ [])) (short_tag 81)) ∷ []) (Say.Drained 4)
    ∷ answered (Do.Peek 64) (Say.Raw (line_of (range_with_len 64 64)))
    ∷ answered Do.On Say.Already
    ∷ answered_with (Do.Drain 0) ((Seal 0 (ctr 1 3) (line_of (54 ∷ 55 ∷ 52 ∷ 53 ∷ 58 ∷ 59 ∷ 56 ∷ 57 ∷ 62 ∷ 63 ∷ 60 ∷ 61 ∷ 34 ∷ 35 ∷ 32 ∷ 33 ∷ 38 ∷ 39 ∷ 36 ∷ 37 ∷ 42 ∷ 43 ∷ 40 ∷ 41 ∷ 46 ∷ 47 ∷ 44 ∷ 45 ∷ 18 ∷ 19 ∷ 16 ∷ 17 ∷ 22 ∷ 23 ∷ 20 ∷ 21 ∷ 26 ∷ 27 ∷ 24 ∷ 25 ∷ 30 ∷ 31 ∷ 28 ∷ 29 ∷ 2 ∷ 3 ∷ 0 ∷ 1 ∷ 6 ∷ 7 ∷ 4 ∷ 5 ∷ 10 ∷ 11 ∷ 8 ∷ 9 ∷ 14 ∷ 15 ∷ 12 ∷ 13 ∷ 114 ∷ 115 ∷ 112 ∷ 113 ∷ [])) (short_tag 18)) ∷ []) (Say.Drained 4)
    ∷ answered_with Do.Turn ((Seal 2 (ctr 1 0) (line_of (range_with_len 123 5 ++ range_with_len 112 8 ++ range_with_len 104 8 ++ range_with_len 96 8 ++ range_with_len 88 8 ++ range_with_len 80 8 ++ range_with_len 72 8 ++ range_with_len 64 8 ++ 56 ∷ 57 ∷ 58 ∷ [])) (short_tag 83)) ∷ []) (Say.Turned 61 4)
    ∷ answered Do.Flush (Say.Flushed 0 1)
    ∷ answered (Do.Read 0 1) (Say.Got (filled_line 215) 0)
    ∷ answered Do.On Say.Already
    ∷ answered (Do.Post 1 2 (filled_line 161)) Say.Ok
    ∷ answered (Do.Read 0 1) (Say.Got (filled_line 215) 0)
    ∷ answered (Do.Read 0 0) (Say.Got (filled_line 131) 0)
    ∷ answered (Do.Post 0 1 (filled_line 189)) Say.Ok
    ∷ answered_with (Do.Drain 0) ((Seal 0 (ctr 1 4) (line_of (134 ∷ 133 ∷ 132 ∷ 139 ∷ 138 ∷ 137 ∷ 136 ∷ 143 ∷ 142 ∷ 141 ∷ 140 ∷ 147 ∷ 146 ∷ 145 ∷ 144 ∷ 151 ∷ 150 ∷ 149 ∷ 148 ∷ 155 ∷ 154 ∷ 153 ∷ 152 ∷ 159 ∷ 158 ∷ 157 ∷ 156 ∷ 163 ∷ 162 ∷ 161 ∷ 160 ∷ 167 ∷ 166 ∷ 165 ∷ 164 ∷ 171 ∷ 170 ∷ 169 ∷ 168 ∷ 175 ∷ 174 ∷ 173 ∷ 172 ∷ 179 ∷ 178 ∷ 177 ∷ 176 ∷ 183 ∷ 182 ∷ 181 ∷ 180 ∷ 187 ∷ 186 ∷ 185 ∷ 184 ∷ 191 ∷ 190 ∷ 189 ∷ 188 ∷ 195 ∷ 194 ∷ 193 ∷ 192 ∷ 199 ∷ [])) (short_tag 85)) ∷ []) (Say.Drained 5)
    ∷ answered Do.Off Say.Ok
    ∷ answered Do.On (Say.Recovered 5 5 3)
    ∷ answered (Do.Cut 6) Say.Ok
    ∷ answered (Do.Drain 0) Say.Empty
    ∷ answered (Do.Post 0 2 (filled_line 45)) Say.Ok
    ∷ answered (Do.Post 1 2 (filled_line 104)) Say.Ok
    ∷ answered_with (Do.Drain 0) ((Seal 2 (ctr 1 1) (line_of (41 ∷ 40 ∷ 43 ∷ 42 ∷ 37 ∷ 36 ∷ 39 ∷ 38 ∷ 33 ∷ 32 ∷ 35 ∷ 34 ∷ 61 ∷ 60 ∷ 63 ∷ 62 ∷ 57 ∷ 56 ∷ 59 ∷ 58 ∷ 53 ∷ 52 ∷ 55 ∷ 54 ∷ 49 ∷ 48 ∷ 51 ∷ 50 ∷ 13 ∷ 12 ∷ 15 ∷ 14 ∷ 9 ∷ 8 ∷ 11 ∷ 10 ∷ 5 ∷ 4 ∷ 7 ∷ 6 ∷ 1 ∷ 0 ∷ 3 ∷ 2 ∷ 29 ∷ 28 ∷ 31 ∷ 30 ∷ 25 ∷ 24 ∷ 27 ∷ 26 ∷ 21 ∷ 20 ∷ 23 ∷ 22 ∷ 17 ∷ 16 ∷ 19 ∷ 18 ∷ 109 ∷ 108 ∷ 111 ∷ 110 ∷ [])) (short_tag 18)) ∷ []) (Say.Drained 6)
    ∷ answered Do.Turn (Say.Cut 0)
    ∷ answered (Do.Read 1 0) Say.Off
    ∷ answered (Do.Drain 0) Say.Off
    ∷ answered Do.On (Say.Recovered 5 5 4)
    ∷ answered (Do.Post 0 0 (filled_line 196)) Say.Ok
    ∷ answered Do.On Say.Already
    ∷ answered (Do.Post 0 2 (filled_line 19)) Say.Ok
    ∷ answered_with (Do.Drain 0) ((Seal 0 (ctr 1 5) (line_of (194 ∷ 195 ∷ range_with_len 204 4 ++ range_with_len 200 4 ++ range_with_len 212 4 ++ range_with_len 208 4 ++ range_with_len 220 4 ++ range_with_len 216 4 ++ range_with_len 228 4 ++ range_with_len 224 4 ++ range_with_len 236 4 ++ range_with_len 232 4 ++ range_with_len 244 4 ++ range_with_len 240 4 ++ range_with_len 252 4 ++ range_with_len 248 4 ++ range_with_len 132 4 ++ 128 ∷ 129 ∷ [])) (short_tag 20)) ∷ []) (Say.Drained 6)
    ∷ answered (Do.Read 0 0) (Say.Got (filled_line 196) 0)
    ∷ answered_with (Do.Drain 0) ((Seal 2 (ctr 1 2) (line_of (22 ∷ 21 ∷ 20 ∷ 27 ∷ 26 ∷ 25 ∷ 24 ∷ 31 ∷ 30 ∷ 29 ∷ 28 ∷ 3 ∷ 2 ∷ 1 ∷ 0 ∷ 7 ∷ 6 ∷ 5 ∷ 4 ∷ 11 ∷ 10 ∷ 9 ∷ 8 ∷ 15 ∷ 14 ∷ 13 ∷ 12 ∷ 51 ∷ 50 ∷ 49 ∷ 48 ∷ 55 ∷ 54 ∷ 53 ∷ 52 ∷ 59 ∷ 58 ∷ 57 ∷ 56 ∷ 63 ∷ 62 ∷ 61 ∷ 60 ∷ 35 ∷ 34 ∷ 33 ∷ 32 ∷ 39 ∷ 38 ∷ 37 ∷ 36 ∷ 43 ∷ 42 ∷ 41 ∷ 40 ∷ 47 ∷ 46 ∷ 45 ∷ 44 ∷ 83 ∷ 82 ∷ 81 ∷ 80 ∷ 87 ∷ [])) (short_tag 81)) ∷ []) (Say.Drained 5)
    ∷ answered (Do.Drain 0) Say.Empty
    ∷ answered (Do.Back 322) Say.Ok
    ∷ answered (Do.Fence 0) (Say.Fenced 0 0)
    ∷ answered (Do.Post 0 2 (filled_line 215)) Say.Ok
    ∷ answered (Do.Peek 58) (Say.Raw (line_of (range_with_len 58 64)))
    ∷ []

-- With tampering, 23 commands
abbrev pub rare_5_setup : Setup
rare_5_setup =
    record {
      shape = record { levels = 1; sets = 1; ways = 1; loss = 4; major = 0; persist = 0; shadow = true; durable = false; combines = false };
      formulas = blur;
    }

abbrev pub rare_5 : Trace
rare_5 =
    answered (Do.Drain 0) Say.Empty
    ∷ answered (Do.Post 0 0 (filled_line 147)) Say.Ok
    ∷ answered (Do.Post 1 0 (filled_line 10)) Say.Ok
    ∷ answered (Do.Back 320) Say.NoSnap
    ∷ answered_with (Do.Drain 0) ((Seal 0 (ctr 0 1) (line_of (146 ∷ 145 ∷ 144 ∷ 151 ∷ 150 ∷ 149 ∷ 148 ∷ 155 ∷ 154 ∷ 153 ∷ 152 ∷ 159 ∷ 158 ∷ 157 ∷ 156 ∷ 131 ∷ 130 ∷ 129 ∷ 128 ∷ 135 ∷ 134 ∷ 133 ∷ 132 ∷ 139 ∷ 138 ∷ 137 ∷ 136 ∷ 143 ∷ 142 ∷ 141 ∷ 140 ∷ 179 ∷ 178 ∷ 177 ∷ 176 ∷ 183 ∷ 182 ∷ 181 ∷ 180 ∷ 187 ∷ 186 ∷ 185 ∷ 184 ∷ 191 ∷ 190 ∷ 189 ∷ 188 ∷ 163 ∷ 162 ∷ 161 ∷ 160 ∷ 167 ∷ 166 ∷ 165 ∷ 164 ∷ 171 ∷ 170 ∷ 169 ∷ 168 ∷ 175 ∷ 174 ∷ 173 ∷ 172 ∷ 211 ∷ [])) (short_tag 80)) ∷ []) (Say.Drained 6)
    ∷ answered (Do.Read 0 1) (Say.Got (filled_line 0) 0)
    ∷ answered (Do.Cut 9) Say.Ok
    ∷ answered Do.Flush (Say.Flushed 0 1)
    ∷ answered (Do.Flip 256 1) Say.Ok
    ∷ answered_with (Do.Drain 1) ((Seal 0 (ctr 0 2) (line_of (8 ∷ 9 ∷ 14 ∷ 15 ∷ 12 ∷ 13 ∷ 2 ∷ 3 ∷ 0 ∷ 1 ∷ 6 ∷ 7 ∷ 4 ∷ 5 ∷ 26 ∷ 27 ∷ 24 ∷ 25 ∷ 30 ∷ 31 ∷ 28 ∷ 29 ∷ 18 ∷ 19 ∷ 16 ∷ 17 ∷ 22 ∷ 23 ∷ 20 ∷ 21 ∷ 42 ∷ 43 ∷ 40 ∷ 41 ∷ 46 ∷ 47 ∷ 44 ∷ 45 ∷ 34 ∷ 35 ∷ 32 ∷ 33 ∷ 38 ∷ 39 ∷ 36 ∷ 37 ∷ 58 ∷ 59 ∷ 56 ∷ 57 ∷ 62 ∷ 63 ∷ 60 ∷ 61 ∷ 50 ∷ 51 ∷ 48 ∷ 49 ∷ 54 ∷ 55 ∷ 52 ∷ 53 ∷ 74 ∷ 75 ∷ [])) (short_tag 17)) ∷ []) (Say.Drained 4)
    ∷ answered (Do.Part 0 1 31 5 (line_of (replicate 5 65 ++ replicate 59 0))) Say.Ok
    ∷ answered_with (Do.Drain 0) ((Seal 1 (ctr 0 1) (line_of (range_with_len 2 31 ++ 96 ∷ 99 ∷ 98 ∷ 101 ∷ 100 ∷ range_with_len 38 28)) (short_tag 80)) ∷ []) (Say.Drained 4)
    ∷ answered (Do.Part 0 1 19 28 (line_of (replicate 28 29 ++ replicate 36 0))) Say.Ok
    ∷ answered (Do.Post 0 1 (filled_line 68)) Say.Ok
    ∷ answered (Do.Peek 53) (Say.Raw (line_of (range_with_len 53 64)))
    ∷ answered (Do.Flip 1 205) Say.Ok
    ∷ answered (Do.Post 0 1 (filled_line 82)) Say.Ok
    ∷ answered Do.Stat (Say.Counts (record { reads = 9; writes = 9; latches = 6; tags = 5; digests = 8 }))
    ∷ answered Do.On Say.Already
    ∷ answered (Do.Drain 0) (Say.Refused None (Place.Line 1) 0)
    ∷ answered (Do.Drain 1) Say.Empty
    ∷ answered Do.Flush (Say.Cut 0)
    ∷ answered Do.On (Say.Shown (Twin 0 0 2 3 (line_of (8 ∷ 9 ∷ 14 ∷ 15 ∷ 12 ∷ 13 ∷ 2 ∷ 3 ∷ 0 ∷ 1 ∷ 6 ∷ 7 ∷ 4 ∷ 5 ∷ 26 ∷ 27 ∷ 24 ∷ 25 ∷ 30 ∷ 31 ∷ 28 ∷ 29 ∷ 18 ∷ 19 ∷ 16 ∷ 17 ∷ 22 ∷ 23 ∷ 20 ∷ 21 ∷ 42 ∷ 43 ∷ 40 ∷ 41 ∷ 46 ∷ 47 ∷ 44 ∷ 45 ∷ 34 ∷ 35 ∷ 32 ∷ 33 ∷ 38 ∷ 39 ∷ 36 ∷ 37 ∷ 58 ∷ 59 ∷ 56 ∷ 57 ∷ 62 ∷ 63 ∷ 60 ∷ 61 ∷ 50 ∷ 51 ∷ 48 ∷ 49 ∷ 54 ∷ 55 ∷ 52 ∷ 53 ∷ 74 ∷ 75 ∷ [])) (short_tag 17)))
    ∷ []

-- Without tampering, 60 commands
abbrev pub rare_6_setup : Setup
rare_6_setup =
    record {
      shape = record { levels = 1; sets = 1; ways = 1; loss = 4; major = 0; persist = 0; shadow = true; durable = false; combines = false };
      formulas = weak;
    }

abbrev pub rare_6 : Trace
rare_6 =
    answered Do.On Say.Already
    ∷ answered (Do.Post 0 64 (filled_line 169)) Say.Ok
    ∷ answered (Do.Read 0 0) (Say.Got (filled_line 0) 0)
    ∷ answered_with (Do.Fence 0) ((Seal 64 (ctr 0 1) (line_of (232 ∷ 235 ∷ 234 ∷ 237 ∷ 236 ∷ 239 ∷ 238 ∷ 225 ∷ 224 ∷ 227 ∷ 226 ∷ 229 ∷ 228 ∷ 231 ∷ 230 ∷ 249 ∷ 248 ∷ 251 ∷ 250 ∷ 253 ∷ 252 ∷ 255 ∷ 254 ∷ 241 ∷ 240 ∷ 243 ∷ 242 ∷ 245 ∷ 244 ∷ 247 ∷ 246 ∷ 201 ∷ 200 ∷ 203 ∷ 202 ∷ 205 ∷ 204 ∷ 207 ∷ 206 ∷ 193 ∷ 192 ∷ 195 ∷ 194 ∷ 197 ∷ 196 ∷ 199 ∷ 198 ∷ 217 ∷ 216 ∷ 219 ∷ 218 ∷ 221 ∷ 220 ∷ 223 ∷ 222 ∷ 209 ∷ 208 ∷ 211 ∷ 210 ∷ 213 ∷ 212 ∷ 215 ∷ 214 ∷ 41 ∷ [])) (short_tag 145)) ∷ []) (Say.Fenced 1 6)
    ∷ answered (Do.Post 0 1 (filled_line 199)) Say.Ok
    ∷ answered (Do.Read 1 1) (Say.Got (filled_line 0) 1)
    ∷ answered (Do.Part 0 0 63 1 (line_of (244 ∷ replicate 63 0))) Say.Ok
    ∷ answered (Do.Drain 1) Say.Empty
    ∷ answered (Do.Post 1 64 (filled_line 89)) Say.Ok
    ∷ answered (Do.Post 0 64 (filled_line 113)) Say.Ok
    ∷ answered (Do.Peek 133) (Say.Raw (line_of (range_with_len 133 64)))
    ∷ answered Do.Flush (Say.Flushed 0 1)
    ∷ answered_with (Do.Drain 0) ((Seal 1 (ctr 0 1) (line_of (197 ∷ 196 ∷ 195 ∷ 194 ∷ 193 ∷ 192 ∷ 207 ∷ 206 ∷ 205 ∷ 204 ∷ 203 ∷ 202 ∷ 201 ∷ 200 ∷ 215 ∷ 214 ∷ 213 ∷ 212 ∷ 211 ∷ 210 ∷ 209 ∷ 208 ∷ 223 ∷ 222 ∷ 221 ∷ 220 ∷ 219 ∷ 218 ∷ 217 ∷ 216 ∷ 231 ∷ 230 ∷ 229 ∷ 228 ∷ 227 ∷ 226 ∷ 225 ∷ 224 ∷ 239 ∷ 238 ∷ 237 ∷ 236 ∷ 235 ∷ 234 ∷ 233 ∷ 232 ∷ 247 ∷ 246 ∷ 245 ∷ 244 ∷ 243 ∷ 242 ∷ 241 ∷ 240 ∷ 255 ∷ 254 ∷ 253 ∷ 252 ∷ 251 ∷ 250 ∷ 249 ∷ 248 ∷ 135 ∷ 134 ∷ [])) (short_tag 16)) ∷ []) (Say.Drained 5)
    ∷ answered (Do.Post 0 1 (filled_line 235)) Say.Ok
    ∷ answered Do.Flush (Say.Flushed 0 1)
    ∷ answered Do.Turn Say.Idle
    ∷ answered_with (Do.Drain 1) ((Seal 64 (ctr 0 2) (line_of (27 ∷ 26 ∷ 29 ∷ 28 ∷ 31 ∷ 30 ∷ 17 ∷ 16 ∷ 19 ∷ 18 ∷ 21 ∷ 20 ∷ 23 ∷ 22 ∷ 9 ∷ 8 ∷ 11 ∷ 10 ∷ 13 ∷ 12 ∷ 15 ∷ 14 ∷ 1 ∷ 0 ∷ 3 ∷ 2 ∷ 5 ∷ 4 ∷ 7 ∷ 6 ∷ 57 ∷ 56 ∷ 59 ∷ 58 ∷ 61 ∷ 60 ∷ 63 ∷ 62 ∷ 49 ∷ 48 ∷ 51 ∷ 50 ∷ 53 ∷ 52 ∷ 55 ∷ 54 ∷ 41 ∷ 40 ∷ 43 ∷ 42 ∷ 45 ∷ 44 ∷ 47 ∷ 46 ∷ 33 ∷ 32 ∷ 35 ∷ 34 ∷ 37 ∷ 36 ∷ 39 ∷ 38 ∷ 217 ∷ 216 ∷ [])) (short_tag 82)) ∷ []) (Say.Drained 6)
    ∷ answered Do.On Say.Already
    ∷ answered (Do.Part 0 0 31 22 (line_of (replicate 22 67 ++ replicate 42 0))) Say.Ok
    ∷ answered (Do.Cut 6) Say.Ok
    ∷ answered (Do.Part 0 0 7 51 (line_of (replicate 51 136 ++ replicate 13 0))) Say.Ok
    ∷ answered Do.Stat (Say.Counts (record { reads = 12; writes = 14; latches = 6; tags = 5; digests = 11 }))
    ∷ answered Do.Turn Say.Idle
    ∷ answered (Do.Post 1 1 (filled_line 18)) Say.Ok
    ∷ answered_with (Do.Drain 0) ((Seal 0 (ctr 0 1) (line_of (range_with_len 1 63 ++ 180 ∷ [])) (short_tag 165)) ∷ []) (Say.Drained 6)
    ∷ answered (Do.Part 0 64 50 7 (line_of (replicate 7 237 ++ replicate 57 0))) Say.Ok
    ∷ answered (Do.Read 0 64) (Say.Got (line_of (replicate 50 113 ++ replicate 7 237 ++ replicate 7 113)) 0)
    ∷ answered (Do.Fence 0) (Say.CutLost (Some 0) 0)
    ∷ answered Do.On (Say.Recovered 255 5 4)
    ∷ answered (Do.Post 1 1 (filled_line 4)) Say.Ok
    ∷ answered (Do.Read 0 64) (Say.Got (filled_line 89) 0)
    ∷ answered (Do.Post 1 64 (filled_line 139)) Say.Ok
    ∷ answered Do.Off Say.Ok
    ∷ answered Do.On (Say.Recovered 0 1 0)
    ∷ answered (Do.Post 1 0 (filled_line 75)) Say.Ok
    ∷ answered (Do.Part 1 1 48 10 (line_of (replicate 10 133 ++ replicate 54 0))) Say.Ok
    ∷ answered (Do.Part 1 1 51 12 (line_of (replicate 12 208 ++ replicate 52 0))) Say.Ok
    ∷ answered (Do.Post 0 0 (filled_line 50)) Say.Ok
    ∷ answered (Do.Post 0 0 (filled_line 59)) Say.Ok
    ∷ answered (Do.Read 0 1) (Say.Got (filled_line 199) 0)
    ∷ answered (Do.Cut 1) Say.Ok
    ∷ answered (Do.Read 0 64) (Say.Got (filled_line 89) 0)
    ∷ answered Do.On Say.Already
    ∷ answered (Do.Loss 8) (Say.LossSet 1)
    ∷ answered (Do.Read 0 64) (Say.Got (filled_line 89) 0)
    ∷ answered (Do.Read 0 64) (Say.Got (filled_line 89) 0)
    ∷ answered (Do.Cut 7) Say.Ok
    ∷ answered (Do.Part 1 64 24 20 (line_of (replicate 20 45 ++ replicate 44 0))) Say.Ok
    ∷ answered (Do.Read 0 64) (Say.Got (filled_line 89) 0)
    ∷ answered (Do.Post 0 0 (filled_line 44)) Say.Ok
    ∷ answered_with (Do.Fence 0) ((Seal 0 (ctr 0 2) (line_of (48 ∷ 49 ∷ 54 ∷ 55 ∷ 52 ∷ 53 ∷ 58 ∷ 59 ∷ 56 ∷ 57 ∷ 62 ∷ 63 ∷ 60 ∷ 61 ∷ 34 ∷ 35 ∷ 32 ∷ 33 ∷ 38 ∷ 39 ∷ 36 ∷ 37 ∷ 42 ∷ 43 ∷ 40 ∷ 41 ∷ 46 ∷ 47 ∷ 44 ∷ 45 ∷ 18 ∷ 19 ∷ 16 ∷ 17 ∷ 22 ∷ 23 ∷ 20 ∷ 21 ∷ 26 ∷ 27 ∷ 24 ∷ 25 ∷ 30 ∷ 31 ∷ 28 ∷ 29 ∷ 2 ∷ 3 ∷ 0 ∷ 1 ∷ 6 ∷ 7 ∷ 4 ∷ 5 ∷ 10 ∷ 11 ∷ 8 ∷ 9 ∷ 14 ∷ 15 ∷ 12 ∷ 13 ∷ 114 ∷ 115 ∷ [])) (short_tag 18)) ∷ (Seal 0 (ctr 0 3) (line_of (56 ∷ 63 ∷ 62 ∷ 61 ∷ 60 ∷ 51 ∷ 50 ∷ 49 ∷ 48 ∷ 55 ∷ 54 ∷ 53 ∷ 52 ∷ 43 ∷ 42 ∷ 41 ∷ 40 ∷ 47 ∷ 46 ∷ 45 ∷ 44 ∷ 35 ∷ 34 ∷ 33 ∷ 32 ∷ 39 ∷ 38 ∷ 37 ∷ 36 ∷ 27 ∷ 26 ∷ 25 ∷ 24 ∷ 31 ∷ 30 ∷ 29 ∷ 28 ∷ 19 ∷ 18 ∷ 17 ∷ 16 ∷ 23 ∷ 22 ∷ 21 ∷ 20 ∷ 11 ∷ 10 ∷ 9 ∷ 8 ∷ 15 ∷ 14 ∷ 13 ∷ 12 ∷ 3 ∷ 2 ∷ 1 ∷ 0 ∷ 7 ∷ 6 ∷ 5 ∷ 4 ∷ 123 ∷ 122 ∷ 121 ∷ [])) (short_tag 83)) ∷ []) (Say.CutKept (Some 1) 7)
    ∷ answered (Do.Part 0 64 34 30 (line_of (replicate 30 7 ++ replicate 34 0))) Say.Off
    ∷ answered (Do.Cut 3) Say.Ok
    ∷ answered Do.On (Say.Cut 3)
    ∷ answered Do.On (Say.Recovered 510 5 4)
    ∷ answered (Do.Drain 0) Say.Empty
    ∷ answered (Do.Read 1 0) (Say.Got (filled_line 59) 0)
    ∷ answered (Do.Cut 9) Say.Ok
    ∷ answered Do.On Say.Already
    ∷ answered (Do.Post 0 64 (filled_line 112)) Say.Ok
    ∷ []

-- With tampering, 312 commands
abbrev pub rare_7_setup : Setup
rare_7_setup =
    record {
      shape = record { levels = 1; sets = 1; ways = 1; loss = 4; major = 0; persist = 0; shadow = true; durable = false; combines = false };
      formulas = weak;
    }

abbrev pub rare_7 : Trace
rare_7 =
    answered (Do.Post 0 0 (filled_line 143)) Say.Ok
    ∷ answered_with (Do.Drain 0) ((Seal 0 (ctr 0 1) (line_of (142 ∷ 141 ∷ 140 ∷ 139 ∷ 138 ∷ 137 ∷ 136 ∷ 135 ∷ 134 ∷ 133 ∷ 132 ∷ 131 ∷ 130 ∷ 129 ∷ 128 ∷ 159 ∷ 158 ∷ 157 ∷ 156 ∷ 155 ∷ 154 ∷ 153 ∷ 152 ∷ 151 ∷ 150 ∷ 149 ∷ 148 ∷ 147 ∷ 146 ∷ 145 ∷ 144 ∷ 175 ∷ 174 ∷ 173 ∷ 172 ∷ 171 ∷ 170 ∷ 169 ∷ 168 ∷ 167 ∷ 166 ∷ 165 ∷ 164 ∷ 163 ∷ 162 ∷ 161 ∷ 160 ∷ 191 ∷ 190 ∷ 189 ∷ 188 ∷ 187 ∷ 186 ∷ 185 ∷ 184 ∷ 183 ∷ 182 ∷ 181 ∷ 180 ∷ 179 ∷ 178 ∷ 177 ∷ 176 ∷ 207 ∷ [])) (short_tag 81)) ∷ []) (Say.Drained 6)
    ∷ answered (Do.Post 0 0 (filled_line 63)) Say.Ok
    ∷ answered_with (Do.Drain 0) ((Seal 0 (ctr 0 2) (line_of (61 ∷ 60 ∷ 59 ∷ 58 ∷ 57 ∷ 56 ∷ 55 ∷ 54 ∷ 53 ∷ 52 ∷ 51 ∷ 50 ∷ 49 ∷ 48 ∷ 47 ∷ 46 ∷ 45 ∷ 44 ∷ 43 ∷ 42 ∷ 41 ∷ 40 ∷ 39 ∷ 38 ∷ 37 ∷ 36 ∷ 35 ∷ 34 ∷ 33 ∷ 32 ∷ 31 ∷ 30 ∷ 29 ∷ 28 ∷ 27 ∷ 26 ∷ 25 ∷ 24 ∷ 23 ∷ 22 ∷ 21 ∷ 20 ∷ 19 ∷ 18 ∷ 17 ∷ 16 ∷ 15 ∷ 14 ∷ 13 ∷ 12 ∷ 11 ∷ 10 ∷ 9 ∷ 8 ∷ 7 ∷ 6 ∷ 5 ∷ 4 ∷ 3 ∷ 2 ∷ 1 ∷ 0 ∷ 127 ∷ 126 ∷ [])) (short_tag 18)) ∷ []) (Say.Drained 4)
    ∷ answered (Do.Post 0 0 (filled_line 119)) Say.Ok
    ∷ answered_with (Do.Drain 0) ((Seal 0 (ctr 0 3) (line_of (116 ∷ 115 ∷ 114 ∷ 113 ∷ 112 ∷ 127 ∷ 126 ∷ 125 ∷ 124 ∷ 123 ∷ 122 ∷ 121 ∷ 120 ∷ 103 ∷ 102 ∷ 101 ∷ 100 ∷ 99 ∷ 98 ∷ 97 ∷ 96 ∷ 111 ∷ 110 ∷ 109 ∷ 108 ∷ 107 ∷ 106 ∷ 105 ∷ 104 ∷ 87 ∷ 86 ∷ 85 ∷ 84 ∷ 83 ∷ 82 ∷ 81 ∷ 80 ∷ 95 ∷ 94 ∷ 93 ∷ 92 ∷ 91 ∷ 90 ∷ 89 ∷ 88 ∷ 71 ∷ 70 ∷ 69 ∷ 68 ∷ 67 ∷ 66 ∷ 65 ∷ 64 ∷ 79 ∷ 78 ∷ 77 ∷ 76 ∷ 75 ∷ 74 ∷ 73 ∷ 72 ∷ 55 ∷ 54 ∷ 53 ∷ [])) (short_tag 83)) ∷ []) (Say.Drained 4)
    ∷ answered (Do.Post 0 0 (filled_line 41)) Say.Ok
    ∷ answered_with (Do.Drain 0) ((Seal 0 (ctr 0 4) (line_of (45 ∷ 44 ∷ 47 ∷ 46 ∷ 33 ∷ 32 ∷ 35 ∷ 34 ∷ 37 ∷ 36 ∷ 39 ∷ 38 ∷ 57 ∷ 56 ∷ 59 ∷ 58 ∷ 61 ∷ 60 ∷ 63 ∷ 62 ∷ 49 ∷ 48 ∷ 51 ∷ 50 ∷ 53 ∷ 52 ∷ 55 ∷ 54 ∷ 9 ∷ 8 ∷ 11 ∷ 10 ∷ 13 ∷ 12 ∷ 15 ∷ 14 ∷ 1 ∷ 0 ∷ 3 ∷ 2 ∷ 5 ∷ 4 ∷ 7 ∷ 6 ∷ 25 ∷ 24 ∷ 27 ∷ 26 ∷ 29 ∷ 28 ∷ 31 ∷ 30 ∷ 17 ∷ 16 ∷ 19 ∷ 18 ∷ 21 ∷ 20 ∷ 23 ∷ 22 ∷ 105 ∷ 104 ∷ 107 ∷ 106 ∷ [])) (short_tag 20)) ∷ []) (Say.Drained 5)
    ∷ answered (Do.Post 0 0 (filled_line 37)) Say.Ok
    ∷ answered_with (Do.Drain 0) ((Seal 0 (ctr 0 5) (line_of (32 ∷ 35 ∷ 34 ∷ 45 ∷ 44 ∷ 47 ∷ 46 ∷ 41 ∷ 40 ∷ 43 ∷ 42 ∷ 53 ∷ 52 ∷ 55 ∷ 54 ∷ 49 ∷ 48 ∷ 51 ∷ 50 ∷ 61 ∷ 60 ∷ 63 ∷ 62 ∷ 57 ∷ 56 ∷ 59 ∷ 58 ∷ 5 ∷ 4 ∷ 7 ∷ 6 ∷ 1 ∷ 0 ∷ 3 ∷ 2 ∷ 13 ∷ 12 ∷ 15 ∷ 14 ∷ 9 ∷ 8 ∷ 11 ∷ 10 ∷ 21 ∷ 20 ∷ 23 ∷ 22 ∷ 17 ∷ 16 ∷ 19 ∷ 18 ∷ 29 ∷ 28 ∷ 31 ∷ 30 ∷ 25 ∷ 24 ∷ 27 ∷ 26 ∷ 101 ∷ 100 ∷ 103 ∷ 102 ∷ 97 ∷ [])) (short_tag 85)) ∷ []) (Say.Drained 4)
    ∷ answered (Do.Post 0 0 (filled_line 139)) Say.Ok
    ∷ answered_with (Do.Drain 0) ((Seal 0 (ctr 0 6) (line_of (141 ∷ 140 ∷ 131 ∷ 130 ∷ 129 ∷ 128 ∷ 135 ∷ 134 ∷ 133 ∷ 132 ∷ 155 ∷ 154 ∷ 153 ∷ 152 ∷ 159 ∷ 158 ∷ 157 ∷ 156 ∷ 147 ∷ 146 ∷ 145 ∷ 144 ∷ 151 ∷ 150 ∷ 149 ∷ 148 ∷ 171 ∷ 170 ∷ 169 ∷ 168 ∷ 175 ∷ 174 ∷ 173 ∷ 172 ∷ 163 ∷ 162 ∷ 161 ∷ 160 ∷ 167 ∷ 166 ∷ 165 ∷ 164 ∷ 187 ∷ 186 ∷ 185 ∷ 184 ∷ 191 ∷ 190 ∷ 189 ∷ 188 ∷ 179 ∷ 178 ∷ 177 ∷ 176 ∷ 183 ∷ 182 ∷ 181 ∷ 180 ∷ 203 ∷ 202 ∷ 201 ∷ 200 ∷ 207 ∷ 206 ∷ [])) (short_tag 22)) ∷ []) (Say.Drained 4)
    ∷ answered (Do.Post 0 0 (filled_line 143)) Say.Ok
    ∷ answered_with (Do.Drain 0) ((Seal 0 (ctr 0 7) (line_of (136 ∷ 135 ∷ 134 ∷ 133 ∷ 132 ∷ 131 ∷ 130 ∷ 129 ∷ 128 ∷ 159 ∷ 158 ∷ 157 ∷ 156 ∷ 155 ∷ 154 ∷ 153 ∷ 152 ∷ 151 ∷ 150 ∷ 149 ∷ 148 ∷ 147 ∷ 146 ∷ 145 ∷ 144 ∷ 175 ∷ 174 ∷ 173 ∷ 172 ∷ 171 ∷ 170 ∷ 169 ∷ 168 ∷ 167 ∷ 166 ∷ 165 ∷ 164 ∷ 163 ∷ 162 ∷ 161 ∷ 160 ∷ 191 ∷ 190 ∷ 189 ∷ 188 ∷ 187 ∷ 186 ∷ 185 ∷ 184 ∷ 183 ∷ 182 ∷ 181 ∷ 180 ∷ 179 ∷ 178 ∷ 177 ∷ 176 ∷ 207 ∷ 206 ∷ 205 ∷ 204 ∷ 203 ∷ 202 ∷ 201 ∷ [])) (short_tag 87)) ∷ []) (Say.Drained 4)
    ∷ answered (Do.Post 0 0 (filled_line 82)) Say.Ok
    ∷ answered_with (Do.Drain 0) ((Seal 0 (ctr 0 8) (line_of (90 ∷ 91 ∷ 88 ∷ 89 ∷ 94 ∷ 95 ∷ 92 ∷ 93 ∷ 66 ∷ 67 ∷ 64 ∷ 65 ∷ 70 ∷ 71 ∷ 68 ∷ 69 ∷ 74 ∷ 75 ∷ 72 ∷ 73 ∷ 78 ∷ 79 ∷ 76 ∷ 77 ∷ 114 ∷ 115 ∷ 112 ∷ 113 ∷ 118 ∷ 119 ∷ 116 ∷ 117 ∷ 122 ∷ 123 ∷ 120 ∷ 121 ∷ 126 ∷ 127 ∷ 124 ∷ 125 ∷ 98 ∷ 99 ∷ 96 ∷ 97 ∷ 102 ∷ 103 ∷ 100 ∷ 101 ∷ 106 ∷ 107 ∷ 104 ∷ 105 ∷ 110 ∷ 111 ∷ 108 ∷ 109 ∷ 18 ∷ 19 ∷ 16 ∷ 17 ∷ 22 ∷ 23 ∷ 20 ∷ 21 ∷ [])) (short_tag 24)) ∷ []) (Say.Drained 5)
    ∷ answered (Do.Post 0 0 (filled_line 214)) Say.Ok
    ∷ answered_with (Do.Drain 0) ((Seal 0 (ctr 0 9) (line_of (223 ∷ 220 ∷ 221 ∷ 218 ∷ 219 ∷ 216 ∷ 217 ∷ 198 ∷ 199 ∷ 196 ∷ 197 ∷ 194 ∷ 195 ∷ 192 ∷ 193 ∷ 206 ∷ 207 ∷ 204 ∷ 205 ∷ 202 ∷ 203 ∷ 200 ∷ 201 ∷ 246 ∷ 247 ∷ 244 ∷ 245 ∷ 242 ∷ 243 ∷ 240 ∷ 241 ∷ 254 ∷ 255 ∷ 252 ∷ 253 ∷ 250 ∷ 251 ∷ 248 ∷ 249 ∷ 230 ∷ 231 ∷ 228 ∷ 229 ∷ 226 ∷ 227 ∷ 224 ∷ 225 ∷ 238 ∷ 239 ∷ 236 ∷ 237 ∷ 234 ∷ 235 ∷ 232 ∷ 233 ∷ 150 ∷ 151 ∷ 148 ∷ 149 ∷ 146 ∷ 147 ∷ 144 ∷ 145 ∷ 158 ∷ [])) (short_tag 89)) ∷ []) (Say.Drained 4)
    ∷ answered (Do.Post 0 0 (filled_line 82)) Say.Ok
    ∷ answered_with (Do.Drain 0) ((Seal 0 (ctr 0 10) (line_of (88 ∷ 89 ∷ 94 ∷ 95 ∷ 92 ∷ 93 ∷ 66 ∷ 67 ∷ 64 ∷ 65 ∷ 70 ∷ 71 ∷ 68 ∷ 69 ∷ 74 ∷ 75 ∷ 72 ∷ 73 ∷ 78 ∷ 79 ∷ 76 ∷ 77 ∷ 114 ∷ 115 ∷ 112 ∷ 113 ∷ 118 ∷ 119 ∷ 116 ∷ 117 ∷ 122 ∷ 123 ∷ 120 ∷ 121 ∷ 126 ∷ 127 ∷ 124 ∷ 125 ∷ 98 ∷ 99 ∷ 96 ∷ 97 ∷ 102 ∷ 103 ∷ 100 ∷ 101 ∷ 106 ∷ 107 ∷ 104 ∷ 105 ∷ 110 ∷ 111 ∷ 108 ∷ 109 ∷ 18 ∷ 19 ∷ 16 ∷ 17 ∷ 22 ∷ 23 ∷ 20 ∷ 21 ∷ 26 ∷ 27 ∷ [])) (short_tag 26)) ∷ []) (Say.Drained 4)
    ∷ answered (Do.Post 0 0 (filled_line 62)) Say.Ok
    ∷ answered_with (Do.Drain 0) ((Seal 0 (ctr 0 11) (line_of (53 ∷ 50 ∷ 51 ∷ 48 ∷ 49 ∷ 46 ∷ 47 ∷ 44 ∷ 45 ∷ 42 ∷ 43 ∷ 40 ∷ 41 ∷ 38 ∷ 39 ∷ 36 ∷ 37 ∷ 34 ∷ 35 ∷ 32 ∷ 33 ∷ 30 ∷ 31 ∷ 28 ∷ 29 ∷ 26 ∷ 27 ∷ 24 ∷ 25 ∷ 22 ∷ 23 ∷ 20 ∷ 21 ∷ 18 ∷ 19 ∷ 16 ∷ 17 ∷ 14 ∷ 15 ∷ 12 ∷ 13 ∷ 10 ∷ 11 ∷ 8 ∷ 9 ∷ 6 ∷ 7 ∷ 4 ∷ 5 ∷ 2 ∷ 3 ∷ 0 ∷ 1 ∷ 126 ∷ 127 ∷ 124 ∷ 125 ∷ 122 ∷ 123 ∷ 120 ∷ 121 ∷ 118 ∷ 119 ∷ 116 ∷ [])) (short_tag 91)) ∷ []) (Say.Drained 4)
    ∷ answered (Do.Post 0 0 (filled_line 160)) Say.Ok
    ∷ answered_with (Do.Drain 0) ((Seal 0 (ctr 0 12) (line_of (range_with_len 172 20 ++ range_with_len 128 32 ++ range_with_len 224 12)) (short_tag 28)) ∷ []) (Say.Drained 5)
    ∷ answered (Do.Post 0 0 (filled_line 138)) Say.Ok
    ∷ answered_with (Do.Drain 0) ((Seal 0 (ctr 0 13) (line_of (135 ∷ 132 ∷ 133 ∷ 154 ∷ 155 ∷ 152 ∷ 153 ∷ 158 ∷ 159 ∷ 156 ∷ 157 ∷ 146 ∷ 147 ∷ 144 ∷ 145 ∷ 150 ∷ 151 ∷ 148 ∷ 149 ∷ 170 ∷ 171 ∷ 168 ∷ 169 ∷ 174 ∷ 175 ∷ 172 ∷ 173 ∷ 162 ∷ 163 ∷ 160 ∷ 161 ∷ 166 ∷ 167 ∷ 164 ∷ 165 ∷ 186 ∷ 187 ∷ 184 ∷ 185 ∷ 190 ∷ 191 ∷ 188 ∷ 189 ∷ 178 ∷ 179 ∷ 176 ∷ 177 ∷ 182 ∷ 183 ∷ 180 ∷ 181 ∷ 202 ∷ 203 ∷ 200 ∷ 201 ∷ 206 ∷ 207 ∷ 204 ∷ 205 ∷ 194 ∷ 195 ∷ 192 ∷ 193 ∷ 198 ∷ [])) (short_tag 93)) ∷ []) (Say.Drained 4)
    ∷ answered (Do.Post 0 0 (filled_line 191)) Say.Ok
    ∷ answered_with (Do.Drain 0) ((Seal 0 (ctr 0 14) (line_of (177 ∷ 176 ∷ 175 ∷ 174 ∷ 173 ∷ 172 ∷ 171 ∷ 170 ∷ 169 ∷ 168 ∷ 167 ∷ 166 ∷ 165 ∷ 164 ∷ 163 ∷ 162 ∷ 161 ∷ 160 ∷ 159 ∷ 158 ∷ 157 ∷ 156 ∷ 155 ∷ 154 ∷ 153 ∷ 152 ∷ 151 ∷ 150 ∷ 149 ∷ 148 ∷ 147 ∷ 146 ∷ 145 ∷ 144 ∷ 143 ∷ 142 ∷ 141 ∷ 140 ∷ 139 ∷ 138 ∷ 137 ∷ 136 ∷ 135 ∷ 134 ∷ 133 ∷ 132 ∷ 131 ∷ 130 ∷ 129 ∷ 128 ∷ 255 ∷ 254 ∷ 253 ∷ 252 ∷ 251 ∷ 250 ∷ 249 ∷ 248 ∷ 247 ∷ 246 ∷ 245 ∷ 244 ∷ 243 ∷ 242 ∷ [])) (short_tag 30)) ∷ []) (Say.Drained 4)
    ∷ answered (Do.Post 0 0 (filled_line 185)) Say.Ok
    ∷ answered_with (Do.Drain 0) ((Seal 0 (ctr 0 15) (line_of (182 ∷ 169 ∷ 168 ∷ 171 ∷ 170 ∷ 173 ∷ 172 ∷ 175 ∷ 174 ∷ 161 ∷ 160 ∷ 163 ∷ 162 ∷ 165 ∷ 164 ∷ 167 ∷ 166 ∷ 153 ∷ 152 ∷ 155 ∷ 154 ∷ 157 ∷ 156 ∷ 159 ∷ 158 ∷ 145 ∷ 144 ∷ 147 ∷ 146 ∷ 149 ∷ 148 ∷ 151 ∷ 150 ∷ 137 ∷ 136 ∷ 139 ∷ 138 ∷ 141 ∷ 140 ∷ 143 ∷ 142 ∷ 129 ∷ 128 ∷ 131 ∷ 130 ∷ 133 ∷ 132 ∷ 135 ∷ 134 ∷ 249 ∷ 248 ∷ 251 ∷ 250 ∷ 253 ∷ 252 ∷ 255 ∷ 254 ∷ 241 ∷ 240 ∷ 243 ∷ 242 ∷ 245 ∷ 244 ∷ 247 ∷ [])) (short_tag 95)) ∷ []) (Say.Drained 4)
    ∷ answered (Do.Post 0 0 (filled_line 37)) Say.Ok
    ∷ answered_with (Do.Drain 0) ((Seal 0 (ctr 0 16) (line_of (53 ∷ 52 ∷ 55 ∷ 54 ∷ 49 ∷ 48 ∷ 51 ∷ 50 ∷ 61 ∷ 60 ∷ 63 ∷ 62 ∷ 57 ∷ 56 ∷ 59 ∷ 58 ∷ 5 ∷ 4 ∷ 7 ∷ 6 ∷ 1 ∷ 0 ∷ 3 ∷ 2 ∷ 13 ∷ 12 ∷ 15 ∷ 14 ∷ 9 ∷ 8 ∷ 11 ∷ 10 ∷ 21 ∷ 20 ∷ 23 ∷ 22 ∷ 17 ∷ 16 ∷ 19 ∷ 18 ∷ 29 ∷ 28 ∷ 31 ∷ 30 ∷ 25 ∷ 24 ∷ 27 ∷ 26 ∷ 101 ∷ 100 ∷ 103 ∷ 102 ∷ 97 ∷ 96 ∷ 99 ∷ 98 ∷ 109 ∷ 108 ∷ 111 ∷ 110 ∷ 105 ∷ 104 ∷ 107 ∷ 106 ∷ [])) (short_tag 0)) ∷ []) (Say.Drained 5)
    ∷ answered (Do.Post 0 0 (filled_line 118)) Say.Ok
    ∷ answered_with (Do.Drain 0) ((Seal 0 (ctr 0 17) (line_of (103 ∷ 100 ∷ 101 ∷ 98 ∷ 99 ∷ 96 ∷ 97 ∷ 110 ∷ 111 ∷ 108 ∷ 109 ∷ 106 ∷ 107 ∷ 104 ∷ 105 ∷ 86 ∷ 87 ∷ 84 ∷ 85 ∷ 82 ∷ 83 ∷ 80 ∷ 81 ∷ 94 ∷ 95 ∷ 92 ∷ 93 ∷ 90 ∷ 91 ∷ 88 ∷ 89 ∷ 70 ∷ 71 ∷ 68 ∷ 69 ∷ 66 ∷ 67 ∷ 64 ∷ 65 ∷ 78 ∷ 79 ∷ 76 ∷ 77 ∷ 74 ∷ 75 ∷ 72 ∷ 73 ∷ 54 ∷ 55 ∷ 52 ∷ 53 ∷ 50 ∷ 51 ∷ 48 ∷ 49 ∷ 62 ∷ 63 ∷ 60 ∷ 61 ∷ 58 ∷ 59 ∷ 56 ∷ 57 ∷ 38 ∷ [])) (short_tag 65)) ∷ []) (Say.Drained 4)
    ∷ answered (Do.Post 0 0 (filled_line 138)) Say.Ok
    ∷ answered_with (Do.Drain 0) ((Seal 0 (ctr 0 18) (line_of (152 ∷ 153 ∷ 158 ∷ 159 ∷ 156 ∷ 157 ∷ 146 ∷ 147 ∷ 144 ∷ 145 ∷ 150 ∷ 151 ∷ 148 ∷ 149 ∷ 170 ∷ 171 ∷ 168 ∷ 169 ∷ 174 ∷ 175 ∷ 172 ∷ 173 ∷ 162 ∷ 163 ∷ 160 ∷ 161 ∷ 166 ∷ 167 ∷ 164 ∷ 165 ∷ 186 ∷ 187 ∷ 184 ∷ 185 ∷ 190 ∷ 191 ∷ 188 ∷ 189 ∷ 178 ∷ 179 ∷ 176 ∷ 177 ∷ 182 ∷ 183 ∷ 180 ∷ 181 ∷ 202 ∷ 203 ∷ 200 ∷ 201 ∷ 206 ∷ 207 ∷ 204 ∷ 205 ∷ 194 ∷ 195 ∷ 192 ∷ 193 ∷ 198 ∷ 199 ∷ 196 ∷ 197 ∷ 218 ∷ 219 ∷ [])) (short_tag 2)) ∷ []) (Say.Drained 4)
    ∷ answered (Do.Post 0 0 (filled_line 228)) Say.Ok
    ∷ answered_with (Do.Drain 0) ((Seal 0 (ctr 0 19) (line_of (247 ∷ range_with_len 240 4 ++ range_with_len 252 4 ++ range_with_len 248 4 ++ range_with_len 196 4 ++ range_with_len 192 4 ++ range_with_len 204 4 ++ range_with_len 200 4 ++ range_with_len 212 4 ++ range_with_len 208 4 ++ range_with_len 220 4 ++ range_with_len 216 4 ++ range_with_len 164 4 ++ range_with_len 160 4 ++ range_with_len 172 4 ++ range_with_len 168 4 ++ 180 ∷ 181 ∷ 182 ∷ [])) (short_tag 67)) ∷ []) (Say.Drained 4)
    ∷ answered (Do.Post 0 0 (filled_line 235)) Say.Ok
    ∷ answered_with (Do.Drain 0) ((Seal 0 (ctr 0 20) (line_of (255 ∷ 254 ∷ 253 ∷ 252 ∷ 243 ∷ 242 ∷ 241 ∷ 240 ∷ 247 ∷ 246 ∷ 245 ∷ 244 ∷ 203 ∷ 202 ∷ 201 ∷ 200 ∷ 207 ∷ 206 ∷ 205 ∷ 204 ∷ 195 ∷ 194 ∷ 193 ∷ 192 ∷ 199 ∷ 198 ∷ 197 ∷ 196 ∷ 219 ∷ 218 ∷ 217 ∷ 216 ∷ 223 ∷ 222 ∷ 221 ∷ 220 ∷ 211 ∷ 210 ∷ 209 ∷ 208 ∷ 215 ∷ 214 ∷ 213 ∷ 212 ∷ 171 ∷ 170 ∷ 169 ∷ 168 ∷ 175 ∷ 174 ∷ 173 ∷ 172 ∷ 163 ∷ 162 ∷ 161 ∷ 160 ∷ 167 ∷ 166 ∷ 165 ∷ 164 ∷ 187 ∷ 186 ∷ 185 ∷ 184 ∷ [])) (short_tag 4)) ∷ []) (Say.Drained 5)
    ∷ answered (Do.Post 0 0 (filled_line 88)) Say.Ok
    ∷ answered_with (Do.Drain 0) ((Seal 0 (ctr 0 21) (line_of (77 ∷ 78 ∷ 79 ∷ range_with_len 64 8 ++ range_with_len 120 8 ++ range_with_len 112 8 ++ range_with_len 104 8 ++ range_with_len 96 8 ++ range_with_len 24 8 ++ range_with_len 16 8 ++ range_with_len 8 5)) (short_tag 69)) ∷ []) (Say.Drained 4)
    ∷ answered (Do.Post 0 0 (filled_line 222)) Say.Ok
    ∷ answered_with (Do.Drain 0) ((Seal 0 (ctr 0 22) (line_of (200 ∷ 201 ∷ 198 ∷ 199 ∷ 196 ∷ 197 ∷ 194 ∷ 195 ∷ 192 ∷ 193 ∷ 254 ∷ 255 ∷ 252 ∷ 253 ∷ 250 ∷ 251 ∷ 248 ∷ 249 ∷ 246 ∷ 247 ∷ 244 ∷ 245 ∷ 242 ∷ 243 ∷ 240 ∷ 241 ∷ 238 ∷ 239 ∷ 236 ∷ 237 ∷ 234 ∷ 235 ∷ 232 ∷ 233 ∷ 230 ∷ 231 ∷ 228 ∷ 229 ∷ 226 ∷ 227 ∷ 224 ∷ 225 ∷ 158 ∷ 159 ∷ 156 ∷ 157 ∷ 154 ∷ 155 ∷ 152 ∷ 153 ∷ 150 ∷ 151 ∷ 148 ∷ 149 ∷ 146 ∷ 147 ∷ 144 ∷ 145 ∷ 142 ∷ 143 ∷ 140 ∷ 141 ∷ 138 ∷ 139 ∷ [])) (short_tag 6)) ∷ []) (Say.Drained 4)
    ∷ answered (Do.Post 0 0 (filled_line 201)) Say.Ok
    ∷ answered_with (Do.Drain 0) ((Seal 0 (ctr 0 23) (line_of (222 ∷ 209 ∷ 208 ∷ 211 ∷ 210 ∷ 213 ∷ 212 ∷ 215 ∷ 214 ∷ 233 ∷ 232 ∷ 235 ∷ 234 ∷ 237 ∷ 236 ∷ 239 ∷ 238 ∷ 225 ∷ 224 ∷ 227 ∷ 226 ∷ 229 ∷ 228 ∷ 231 ∷ 230 ∷ 249 ∷ 248 ∷ 251 ∷ 250 ∷ 253 ∷ 252 ∷ 255 ∷ 254 ∷ 241 ∷ 240 ∷ 243 ∷ 242 ∷ 245 ∷ 244 ∷ 247 ∷ 246 ∷ 137 ∷ 136 ∷ 139 ∷ 138 ∷ 141 ∷ 140 ∷ 143 ∷ 142 ∷ 129 ∷ 128 ∷ 131 ∷ 130 ∷ 133 ∷ 132 ∷ 135 ∷ 134 ∷ 153 ∷ 152 ∷ 155 ∷ 154 ∷ 157 ∷ 156 ∷ 159 ∷ [])) (short_tag 71)) ∷ []) (Say.Drained 4)
    ∷ answered (Do.Post 0 0 (filled_line 34)) Say.Ok
    ∷ answered_with (Do.Drain 0) ((Seal 0 (ctr 0 24) (line_of (58 ∷ 59 ∷ 56 ∷ 57 ∷ 62 ∷ 63 ∷ 60 ∷ 61 ∷ 2 ∷ 3 ∷ 0 ∷ 1 ∷ 6 ∷ 7 ∷ 4 ∷ 5 ∷ 10 ∷ 11 ∷ 8 ∷ 9 ∷ 14 ∷ 15 ∷ 12 ∷ 13 ∷ 18 ∷ 19 ∷ 16 ∷ 17 ∷ 22 ∷ 23 ∷ 20 ∷ 21 ∷ 26 ∷ 27 ∷ 24 ∷ 25 ∷ 30 ∷ 31 ∷ 28 ∷ 29 ∷ 98 ∷ 99 ∷ 96 ∷ 97 ∷ 102 ∷ 103 ∷ 100 ∷ 101 ∷ 106 ∷ 107 ∷ 104 ∷ 105 ∷ 110 ∷ 111 ∷ 108 ∷ 109 ∷ 114 ∷ 115 ∷ 112 ∷ 113 ∷ 118 ∷ 119 ∷ 116 ∷ 117 ∷ [])) (short_tag 8)) ∷ []) (Say.Drained 5)
    ∷ answered (Do.Post 0 0 (filled_line 143)) Say.Ok
    ∷ answered_with (Do.Drain 0) ((Seal 0 (ctr 0 25) (line_of (150 ∷ 149 ∷ 148 ∷ 147 ∷ 146 ∷ 145 ∷ 144 ∷ 175 ∷ 174 ∷ 173 ∷ 172 ∷ 171 ∷ 170 ∷ 169 ∷ 168 ∷ 167 ∷ 166 ∷ 165 ∷ 164 ∷ 163 ∷ 162 ∷ 161 ∷ 160 ∷ 191 ∷ 190 ∷ 189 ∷ 188 ∷ 187 ∷ 186 ∷ 185 ∷ 184 ∷ 183 ∷ 182 ∷ 181 ∷ 180 ∷ 179 ∷ 178 ∷ 177 ∷ 176 ∷ 207 ∷ 206 ∷ 205 ∷ 204 ∷ 203 ∷ 202 ∷ 201 ∷ 200 ∷ 199 ∷ 198 ∷ 197 ∷ 196 ∷ 195 ∷ 194 ∷ 193 ∷ 192 ∷ 223 ∷ 222 ∷ 221 ∷ 220 ∷ 219 ∷ 218 ∷ 217 ∷ 216 ∷ 215 ∷ [])) (short_tag 73)) ∷ []) (Say.Drained 4)
    ∷ answered (Do.Post 0 0 (filled_line 37)) Say.Ok
    ∷ answered_with (Do.Drain 0) ((Seal 0 (ctr 0 26) (line_of (63 ∷ 62 ∷ 57 ∷ 56 ∷ 59 ∷ 58 ∷ 5 ∷ 4 ∷ 7 ∷ 6 ∷ 1 ∷ 0 ∷ 3 ∷ 2 ∷ 13 ∷ 12 ∷ 15 ∷ 14 ∷ 9 ∷ 8 ∷ 11 ∷ 10 ∷ 21 ∷ 20 ∷ 23 ∷ 22 ∷ 17 ∷ 16 ∷ 19 ∷ 18 ∷ 29 ∷ 28 ∷ 31 ∷ 30 ∷ 25 ∷ 24 ∷ 27 ∷ 26 ∷ 101 ∷ 100 ∷ 103 ∷ 102 ∷ 97 ∷ 96 ∷ 99 ∷ 98 ∷ 109 ∷ 108 ∷ 111 ∷ 110 ∷ 105 ∷ 104 ∷ 107 ∷ 106 ∷ 117 ∷ 116 ∷ 119 ∷ 118 ∷ 113 ∷ 112 ∷ 115 ∷ 114 ∷ 125 ∷ 124 ∷ [])) (short_tag 10)) ∷ []) (Say.Drained 4)
    ∷ answered (Do.Post 0 0 (filled_line 165)) Say.Ok
    ∷ answered_with (Do.Drain 0) ((Seal 0 (ctr 0 27) (line_of (190 ∷ 185 ∷ 184 ∷ 187 ∷ 186 ∷ 133 ∷ 132 ∷ 135 ∷ 134 ∷ 129 ∷ 128 ∷ 131 ∷ 130 ∷ 141 ∷ 140 ∷ 143 ∷ 142 ∷ 137 ∷ 136 ∷ 139 ∷ 138 ∷ 149 ∷ 148 ∷ 151 ∷ 150 ∷ 145 ∷ 144 ∷ 147 ∷ 146 ∷ 157 ∷ 156 ∷ 159 ∷ 158 ∷ 153 ∷ 152 ∷ 155 ∷ 154 ∷ 229 ∷ 228 ∷ 231 ∷ 230 ∷ 225 ∷ 224 ∷ 227 ∷ 226 ∷ 237 ∷ 236 ∷ 239 ∷ 238 ∷ 233 ∷ 232 ∷ 235 ∷ 234 ∷ 245 ∷ 244 ∷ 247 ∷ 246 ∷ 241 ∷ 240 ∷ 243 ∷ 242 ∷ 253 ∷ 252 ∷ 255 ∷ [])) (short_tag 75)) ∷ []) (Say.Drained 4)
    ∷ answered (Do.Post 0 0 (filled_line 88)) Say.Ok
    ∷ answered_with (Do.Drain 0) ((Seal 0 (ctr 0 28) (line_of (range_with_len 68 4 ++ range_with_len 120 8 ++ range_with_len 112 8 ++ range_with_len 104 8 ++ range_with_len 96 8 ++ range_with_len 24 8 ++ range_with_len 16 8 ++ range_with_len 8 8 ++ range_with_len 0 4)) (short_tag 12)) ∷ []) (Say.Drained 5)
    ∷ answered (Do.Post 0 0 (filled_line 3)) Say.Ok
    ∷ answered_with (Do.Drain 0) ((Seal 0 (ctr 0 29) (line_of (30 ∷ 29 ∷ 28 ∷ 35 ∷ 34 ∷ 33 ∷ 32 ∷ 39 ∷ 38 ∷ 37 ∷ 36 ∷ 43 ∷ 42 ∷ 41 ∷ 40 ∷ 47 ∷ 46 ∷ 45 ∷ 44 ∷ 51 ∷ 50 ∷ 49 ∷ 48 ∷ 55 ∷ 54 ∷ 53 ∷ 52 ∷ 59 ∷ 58 ∷ 57 ∷ 56 ∷ 63 ∷ 62 ∷ 61 ∷ 60 ∷ 67 ∷ 66 ∷ 65 ∷ 64 ∷ 71 ∷ 70 ∷ 69 ∷ 68 ∷ 75 ∷ 74 ∷ 73 ∷ 72 ∷ 79 ∷ 78 ∷ 77 ∷ 76 ∷ 83 ∷ 82 ∷ 81 ∷ 80 ∷ 87 ∷ 86 ∷ 85 ∷ 84 ∷ 91 ∷ 90 ∷ 89 ∷ 88 ∷ 95 ∷ [])) (short_tag 77)) ∷ []) (Say.Drained 4)
    ∷ answered (Do.Post 0 0 (filled_line 237)) Say.Ok
    ∷ answered_with (Do.Drain 0) ((Seal 0 (ctr 0 30) (line_of (243 ∷ 242 ∷ 205 ∷ 204 ∷ 207 ∷ 206 ∷ 201 ∷ 200 ∷ 203 ∷ 202 ∷ 197 ∷ 196 ∷ 199 ∷ 198 ∷ 193 ∷ 192 ∷ 195 ∷ 194 ∷ 221 ∷ 220 ∷ 223 ∷ 222 ∷ 217 ∷ 216 ∷ 219 ∷ 218 ∷ 213 ∷ 212 ∷ 215 ∷ 214 ∷ 209 ∷ 208 ∷ 211 ∷ 210 ∷ 173 ∷ 172 ∷ 175 ∷ 174 ∷ 169 ∷ 168 ∷ 171 ∷ 170 ∷ 165 ∷ 164 ∷ 167 ∷ 166 ∷ 161 ∷ 160 ∷ 163 ∷ 162 ∷ 189 ∷ 188 ∷ 191 ∷ 190 ∷ 185 ∷ 184 ∷ 187 ∷ 186 ∷ 181 ∷ 180 ∷ 183 ∷ 182 ∷ 177 ∷ 176 ∷ [])) (short_tag 14)) ∷ []) (Say.Drained 4)
    ∷ answered (Do.Post 0 0 (filled_line 183)) Say.Ok
    ∷ answered_with (Do.Drain 0) ((Seal 0 (ctr 0 31) (line_of (168 ∷ 151 ∷ 150 ∷ 149 ∷ 148 ∷ 147 ∷ 146 ∷ 145 ∷ 144 ∷ 159 ∷ 158 ∷ 157 ∷ 156 ∷ 155 ∷ 154 ∷ 153 ∷ 152 ∷ 135 ∷ 134 ∷ 133 ∷ 132 ∷ 131 ∷ 130 ∷ 129 ∷ 128 ∷ 143 ∷ 142 ∷ 141 ∷ 140 ∷ 139 ∷ 138 ∷ 137 ∷ 136 ∷ 247 ∷ 246 ∷ 245 ∷ 244 ∷ 243 ∷ 242 ∷ 241 ∷ 240 ∷ 255 ∷ 254 ∷ 253 ∷ 252 ∷ 251 ∷ 250 ∷ 249 ∷ 248 ∷ 231 ∷ 230 ∷ 229 ∷ 228 ∷ 227 ∷ 226 ∷ 225 ∷ 224 ∷ 239 ∷ 238 ∷ 237 ∷ 236 ∷ 235 ∷ 234 ∷ 233 ∷ [])) (short_tag 79)) ∷ []) (Say.Drained 4)
    ∷ answered (Do.Post 0 0 (filled_line 197)) Say.Ok
    ∷ answered_with (Do.Drain 0) ((Seal 0 (ctr 0 32) (line_of (229 ∷ 228 ∷ 231 ∷ 230 ∷ 225 ∷ 224 ∷ 227 ∷ 226 ∷ 237 ∷ 236 ∷ 239 ∷ 238 ∷ 233 ∷ 232 ∷ 235 ∷ 234 ∷ 245 ∷ 244 ∷ 247 ∷ 246 ∷ 241 ∷ 240 ∷ 243 ∷ 242 ∷ 253 ∷ 252 ∷ 255 ∷ 254 ∷ 249 ∷ 248 ∷ 251 ∷ 250 ∷ 133 ∷ 132 ∷ 135 ∷ 134 ∷ 129 ∷ 128 ∷ 131 ∷ 130 ∷ 141 ∷ 140 ∷ 143 ∷ 142 ∷ 137 ∷ 136 ∷ 139 ∷ 138 ∷ 149 ∷ 148 ∷ 151 ∷ 150 ∷ 145 ∷ 144 ∷ 147 ∷ 146 ∷ 157 ∷ 156 ∷ 159 ∷ 158 ∷ 153 ∷ 152 ∷ 155 ∷ 154 ∷ [])) (short_tag 48)) ∷ []) (Say.Drained 5)
    ∷ answered (Do.Post 0 0 (filled_line 81)) Say.Ok
    ∷ answered_with (Do.Drain 0) ((Seal 0 (ctr 0 33) (line_of (112 ∷ 115 ∷ 114 ∷ 117 ∷ 116 ∷ 119 ∷ 118 ∷ 121 ∷ 120 ∷ 123 ∷ 122 ∷ 125 ∷ 124 ∷ 127 ∷ 126 ∷ 97 ∷ 96 ∷ 99 ∷ 98 ∷ 101 ∷ 100 ∷ 103 ∷ 102 ∷ 105 ∷ 104 ∷ 107 ∷ 106 ∷ 109 ∷ 108 ∷ 111 ∷ 110 ∷ 17 ∷ 16 ∷ 19 ∷ 18 ∷ 21 ∷ 20 ∷ 23 ∷ 22 ∷ 25 ∷ 24 ∷ 27 ∷ 26 ∷ 29 ∷ 28 ∷ 31 ∷ 30 ∷ 1 ∷ 0 ∷ 3 ∷ 2 ∷ 5 ∷ 4 ∷ 7 ∷ 6 ∷ 9 ∷ 8 ∷ 11 ∷ 10 ∷ 13 ∷ 12 ∷ 15 ∷ 14 ∷ 49 ∷ [])) (short_tag 113)) ∷ []) (Say.Drained 4)
    ∷ answered (Do.Post 0 0 (filled_line 193)) Say.Ok
    ∷ answered_with (Do.Drain 0) ((Seal 0 (ctr 0 34) (line_of (227 ∷ 226 ∷ 229 ∷ 228 ∷ 231 ∷ 230 ∷ 233 ∷ 232 ∷ 235 ∷ 234 ∷ 237 ∷ 236 ∷ 239 ∷ 238 ∷ 241 ∷ 240 ∷ 243 ∷ 242 ∷ 245 ∷ 244 ∷ 247 ∷ 246 ∷ 249 ∷ 248 ∷ 251 ∷ 250 ∷ 253 ∷ 252 ∷ 255 ∷ 254 ∷ 129 ∷ 128 ∷ 131 ∷ 130 ∷ 133 ∷ 132 ∷ 135 ∷ 134 ∷ 137 ∷ 136 ∷ 139 ∷ 138 ∷ 141 ∷ 140 ∷ 143 ∷ 142 ∷ 145 ∷ 144 ∷ 147 ∷ 146 ∷ 149 ∷ 148 ∷ 151 ∷ 150 ∷ 153 ∷ 152 ∷ 155 ∷ 154 ∷ 157 ∷ 156 ∷ 159 ∷ 158 ∷ 161 ∷ 160 ∷ [])) (short_tag 50)) ∷ []) (Say.Drained 4)
    ∷ answered (Do.Post 0 0 (filled_line 132)) Say.Ok
    ∷ answered_with (Do.Drain 0) ((Seal 0 (ctr 0 35) (line_of (167 ∷ range_with_len 160 4 ++ range_with_len 172 4 ++ range_with_len 168 4 ++ range_with_len 180 4 ++ range_with_len 176 4 ++ range_with_len 188 4 ++ range_with_len 184 4 ++ range_with_len 196 4 ++ range_with_len 192 4 ++ range_with_len 204 4 ++ range_with_len 200 4 ++ range_with_len 212 4 ++ range_with_len 208 4 ++ range_with_len 220 4 ++ range_with_len 216 4 ++ 228 ∷ 229 ∷ 230 ∷ [])) (short_tag 115)) ∷ []) (Say.Drained 4)
    ∷ answered (Do.Post 0 0 (filled_line 6)) Say.Ok
    ∷ answered_with (Do.Drain 0) ((Seal 0 (ctr 0 36) (line_of (34 ∷ 35 ∷ 32 ∷ 33 ∷ 46 ∷ 47 ∷ 44 ∷ 45 ∷ 42 ∷ 43 ∷ 40 ∷ 41 ∷ 54 ∷ 55 ∷ 52 ∷ 53 ∷ 50 ∷ 51 ∷ 48 ∷ 49 ∷ 62 ∷ 63 ∷ 60 ∷ 61 ∷ 58 ∷ 59 ∷ 56 ∷ 57 ∷ 70 ∷ 71 ∷ 68 ∷ 69 ∷ 66 ∷ 67 ∷ 64 ∷ 65 ∷ 78 ∷ 79 ∷ 76 ∷ 77 ∷ 74 ∷ 75 ∷ 72 ∷ 73 ∷ 86 ∷ 87 ∷ 84 ∷ 85 ∷ 82 ∷ 83 ∷ 80 ∷ 81 ∷ 94 ∷ 95 ∷ 92 ∷ 93 ∷ 90 ∷ 91 ∷ 88 ∷ 89 ∷ 102 ∷ 103 ∷ 100 ∷ 101 ∷ [])) (short_tag 52)) ∷ []) (Say.Drained 5)
    ∷ answered (Do.Post 0 0 (filled_line 105)) Say.Ok
    ∷ answered_with (Do.Drain 0) ((Seal 0 (ctr 0 37) (line_of (76 ∷ 79 ∷ 78 ∷ 65 ∷ 64 ∷ 67 ∷ 66 ∷ 69 ∷ 68 ∷ 71 ∷ 70 ∷ 89 ∷ 88 ∷ 91 ∷ 90 ∷ 93 ∷ 92 ∷ 95 ∷ 94 ∷ 81 ∷ 80 ∷ 83 ∷ 82 ∷ 85 ∷ 84 ∷ 87 ∷ 86 ∷ 41 ∷ 40 ∷ 43 ∷ 42 ∷ 45 ∷ 44 ∷ 47 ∷ 46 ∷ 33 ∷ 32 ∷ 35 ∷ 34 ∷ 37 ∷ 36 ∷ 39 ∷ 38 ∷ 57 ∷ 56 ∷ 59 ∷ 58 ∷ 61 ∷ 60 ∷ 63 ∷ 62 ∷ 49 ∷ 48 ∷ 51 ∷ 50 ∷ 53 ∷ 52 ∷ 55 ∷ 54 ∷ 9 ∷ 8 ∷ 11 ∷ 10 ∷ 13 ∷ [])) (short_tag 117)) ∷ []) (Say.Drained 4)
    ∷ answered (Do.Post 0 0 (filled_line 69)) Say.Ok
    ∷ answered_with (Do.Drain 0) ((Seal 0 (ctr 0 38) (line_of (99 ∷ 98 ∷ 109 ∷ 108 ∷ 111 ∷ 110 ∷ 105 ∷ 104 ∷ 107 ∷ 106 ∷ 117 ∷ 116 ∷ 119 ∷ 118 ∷ 113 ∷ 112 ∷ 115 ∷ 114 ∷ 125 ∷ 124 ∷ 127 ∷ 126 ∷ 121 ∷ 120 ∷ 123 ∷ 122 ∷ 5 ∷ 4 ∷ 7 ∷ 6 ∷ 1 ∷ 0 ∷ 3 ∷ 2 ∷ 13 ∷ 12 ∷ 15 ∷ 14 ∷ 9 ∷ 8 ∷ 11 ∷ 10 ∷ 21 ∷ 20 ∷ 23 ∷ 22 ∷ 17 ∷ 16 ∷ 19 ∷ 18 ∷ 29 ∷ 28 ∷ 31 ∷ 30 ∷ 25 ∷ 24 ∷ 27 ∷ 26 ∷ 37 ∷ 36 ∷ 39 ∷ 38 ∷ 33 ∷ 32 ∷ [])) (short_tag 54)) ∷ []) (Say.Drained 4)
    ∷ answered (Do.Post 0 0 (filled_line 4)) Say.Ok
    ∷ answered_with (Do.Drain 0) ((Seal 0 (ctr 0 39) (line_of (35 ∷ range_with_len 44 4 ++ range_with_len 40 4 ++ range_with_len 52 4 ++ range_with_len 48 4 ++ range_with_len 60 4 ++ range_with_len 56 4 ++ range_with_len 68 4 ++ range_with_len 64 4 ++ range_with_len 76 4 ++ range_with_len 72 4 ++ range_with_len 84 4 ++ range_with_len 80 4 ++ range_with_len 92 4 ++ range_with_len 88 4 ++ range_with_len 100 4 ++ 96 ∷ 97 ∷ 98 ∷ [])) (short_tag 119)) ∷ []) (Say.Drained 4)
    ∷ answered (Do.Post 0 0 (filled_line 178)) Say.Ok
    ∷ answered_with (Do.Drain 0) ((Seal 0 (ctr 0 40) (line_of (154 ∷ 155 ∷ 152 ∷ 153 ∷ 158 ∷ 159 ∷ 156 ∷ 157 ∷ 130 ∷ 131 ∷ 128 ∷ 129 ∷ 134 ∷ 135 ∷ 132 ∷ 133 ∷ 138 ∷ 139 ∷ 136 ∷ 137 ∷ 142 ∷ 143 ∷ 140 ∷ 141 ∷ 242 ∷ 243 ∷ 240 ∷ 241 ∷ 246 ∷ 247 ∷ 244 ∷ 245 ∷ 250 ∷ 251 ∷ 248 ∷ 249 ∷ 254 ∷ 255 ∷ 252 ∷ 253 ∷ 226 ∷ 227 ∷ 224 ∷ 225 ∷ 230 ∷ 231 ∷ 228 ∷ 229 ∷ 234 ∷ 235 ∷ 232 ∷ 233 ∷ 238 ∷ 239 ∷ 236 ∷ 237 ∷ 210 ∷ 211 ∷ 208 ∷ 209 ∷ 214 ∷ 215 ∷ 212 ∷ 213 ∷ [])) (short_tag 56)) ∷ []) (Say.Drained 5)
    ∷ answered (Do.Post 0 0 (filled_line 5)) Say.Ok
    ∷ answered_with (Do.Drain 0) ((Seal 0 (ctr 0 41) (line_of (44 ∷ 47 ∷ 46 ∷ 41 ∷ 40 ∷ 43 ∷ 42 ∷ 53 ∷ 52 ∷ 55 ∷ 54 ∷ 49 ∷ 48 ∷ 51 ∷ 50 ∷ 61 ∷ 60 ∷ 63 ∷ 62 ∷ 57 ∷ 56 ∷ 59 ∷ 58 ∷ 69 ∷ 68 ∷ 71 ∷ 70 ∷ 65 ∷ 64 ∷ 67 ∷ 66 ∷ 77 ∷ 76 ∷ 79 ∷ 78 ∷ 73 ∷ 72 ∷ 75 ∷ 74 ∷ 85 ∷ 84 ∷ 87 ∷ 86 ∷ 81 ∷ 80 ∷ 83 ∷ 82 ∷ 93 ∷ 92 ∷ 95 ∷ 94 ∷ 89 ∷ 88 ∷ 91 ∷ 90 ∷ 101 ∷ 100 ∷ 103 ∷ 102 ∷ 97 ∷ 96 ∷ 99 ∷ 98 ∷ 109 ∷ [])) (short_tag 121)) ∷ []) (Say.Drained 4)
    ∷ answered (Do.Post 0 0 (filled_line 9)) Say.Ok
    ∷ answered_with (Do.Drain 0) ((Seal 0 (ctr 0 42) (line_of (35 ∷ 34 ∷ 37 ∷ 36 ∷ 39 ∷ 38 ∷ 57 ∷ 56 ∷ 59 ∷ 58 ∷ 61 ∷ 60 ∷ 63 ∷ 62 ∷ 49 ∷ 48 ∷ 51 ∷ 50 ∷ 53 ∷ 52 ∷ 55 ∷ 54 ∷ 73 ∷ 72 ∷ 75 ∷ 74 ∷ 77 ∷ 76 ∷ 79 ∷ 78 ∷ 65 ∷ 64 ∷ 67 ∷ 66 ∷ 69 ∷ 68 ∷ 71 ∷ 70 ∷ 89 ∷ 88 ∷ 91 ∷ 90 ∷ 93 ∷ 92 ∷ 95 ∷ 94 ∷ 81 ∷ 80 ∷ 83 ∷ 82 ∷ 85 ∷ 84 ∷ 87 ∷ 86 ∷ 105 ∷ 104 ∷ 107 ∷ 106 ∷ 109 ∷ 108 ∷ 111 ∷ 110 ∷ 97 ∷ 96 ∷ [])) (short_tag 58)) ∷ []) (Say.Drained 4)
    ∷ answered (Do.Post 0 0 (filled_line 170)) Say.Ok
    ∷ answered_with (Do.Drain 0) ((Seal 0 (ctr 0 43) (line_of (129 ∷ 134 ∷ 135 ∷ 132 ∷ 133 ∷ 154 ∷ 155 ∷ 152 ∷ 153 ∷ 158 ∷ 159 ∷ 156 ∷ 157 ∷ 146 ∷ 147 ∷ 144 ∷ 145 ∷ 150 ∷ 151 ∷ 148 ∷ 149 ∷ 234 ∷ 235 ∷ 232 ∷ 233 ∷ 238 ∷ 239 ∷ 236 ∷ 237 ∷ 226 ∷ 227 ∷ 224 ∷ 225 ∷ 230 ∷ 231 ∷ 228 ∷ 229 ∷ 250 ∷ 251 ∷ 248 ∷ 249 ∷ 254 ∷ 255 ∷ 252 ∷ 253 ∷ 242 ∷ 243 ∷ 240 ∷ 241 ∷ 246 ∷ 247 ∷ 244 ∷ 245 ∷ 202 ∷ 203 ∷ 200 ∷ 201 ∷ 206 ∷ 207 ∷ 204 ∷ 205 ∷ 194 ∷ 195 ∷ 192 ∷ [])) (short_tag 123)) ∷ []) (Say.Drained 4)
    ∷ answered (Do.Post 0 0 (filled_line 174)) Say.Ok
    ∷ answered_with (Do.Drain 0) ((Seal 0 (ctr 0 44) (line_of (130 ∷ 131 ∷ 128 ∷ 129 ∷ 158 ∷ 159 ∷ 156 ∷ 157 ∷ 154 ∷ 155 ∷ 152 ∷ 153 ∷ 150 ∷ 151 ∷ 148 ∷ 149 ∷ 146 ∷ 147 ∷ 144 ∷ 145 ∷ 238 ∷ 239 ∷ 236 ∷ 237 ∷ 234 ∷ 235 ∷ 232 ∷ 233 ∷ 230 ∷ 231 ∷ 228 ∷ 229 ∷ 226 ∷ 227 ∷ 224 ∷ 225 ∷ 254 ∷ 255 ∷ 252 ∷ 253 ∷ 250 ∷ 251 ∷ 248 ∷ 249 ∷ 246 ∷ 247 ∷ 244 ∷ 245 ∷ 242 ∷ 243 ∷ 240 ∷ 241 ∷ 206 ∷ 207 ∷ 204 ∷ 205 ∷ 202 ∷ 203 ∷ 200 ∷ 201 ∷ 198 ∷ 199 ∷ 196 ∷ 197 ∷ [])) (short_tag 60)) ∷ []) (Say.Drained 5)
    ∷ answered (Do.Post 0 0 (filled_line 105)) Say.Ok
    ∷ answered_with (Do.Drain 0) ((Seal 0 (ctr 0 45) (line_of (68 ∷ 71 ∷ 70 ∷ 89 ∷ 88 ∷ 91 ∷ 90 ∷ 93 ∷ 92 ∷ 95 ∷ 94 ∷ 81 ∷ 80 ∷ 83 ∷ 82 ∷ 85 ∷ 84 ∷ 87 ∷ 86 ∷ 41 ∷ 40 ∷ 43 ∷ 42 ∷ 45 ∷ 44 ∷ 47 ∷ 46 ∷ 33 ∷ 32 ∷ 35 ∷ 34 ∷ 37 ∷ 36 ∷ 39 ∷ 38 ∷ 57 ∷ 56 ∷ 59 ∷ 58 ∷ 61 ∷ 60 ∷ 63 ∷ 62 ∷ 49 ∷ 48 ∷ 51 ∷ 50 ∷ 53 ∷ 52 ∷ 55 ∷ 54 ∷ 9 ∷ 8 ∷ 11 ∷ 10 ∷ 13 ∷ 12 ∷ 15 ∷ 14 ∷ 1 ∷ 0 ∷ 3 ∷ 2 ∷ 5 ∷ [])) (short_tag 125)) ∷ []) (Say.Drained 4)
    ∷ answered (Do.Post 0 0 (filled_line 50)) Say.Ok
    ∷ answered_with (Do.Drain 0) ((Seal 0 (ctr 0 46) (line_of (28 ∷ 29 ∷ 2 ∷ 3 ∷ 0 ∷ 1 ∷ 6 ∷ 7 ∷ 4 ∷ 5 ∷ 10 ∷ 11 ∷ 8 ∷ 9 ∷ 14 ∷ 15 ∷ 12 ∷ 13 ∷ 114 ∷ 115 ∷ 112 ∷ 113 ∷ 118 ∷ 119 ∷ 116 ∷ 117 ∷ 122 ∷ 123 ∷ 120 ∷ 121 ∷ 126 ∷ 127 ∷ 124 ∷ 125 ∷ 98 ∷ 99 ∷ 96 ∷ 97 ∷ 102 ∷ 103 ∷ 100 ∷ 101 ∷ 106 ∷ 107 ∷ 104 ∷ 105 ∷ 110 ∷ 111 ∷ 108 ∷ 109 ∷ 82 ∷ 83 ∷ 80 ∷ 81 ∷ 86 ∷ 87 ∷ 84 ∷ 85 ∷ 90 ∷ 91 ∷ 88 ∷ 89 ∷ 94 ∷ 95 ∷ [])) (short_tag 62)) ∷ []) (Say.Drained 4)
    ∷ answered (Do.Post 0 0 (filled_line 112)) Say.Ok
    ∷ answered_with (Do.Drain 0) ((Seal 0 (ctr 0 47) (line_of (95 ∷ range_with_len 64 16 ++ range_with_len 48 16 ++ range_with_len 32 16 ++ range_with_len 16 15)) (short_tag 127)) ∷ []) (Say.Drained 4)
    ∷ answered (Do.Post 0 0 (filled_line 16)) Say.Ok
    ∷ answered_with (Do.Drain 0) ((Seal 0 (ctr 0 48) (line_of (range_with_len 32 16 ++ range_with_len 80 16 ++ range_with_len 64 16 ++ range_with_len 112 16)) (short_tag 32)) ∷ []) (Say.Drained 5)
    ∷ answered (Do.Post 0 0 (filled_line 153)) Say.Ok
    ∷ answered_with (Do.Drain 0) ((Seal 0 (ctr 0 49) (line_of (168 ∷ 171 ∷ 170 ∷ 173 ∷ 172 ∷ 175 ∷ 174 ∷ 161 ∷ 160 ∷ 163 ∷ 162 ∷ 165 ∷ 164 ∷ 167 ∷ 166 ∷ 217 ∷ 216 ∷ 219 ∷ 218 ∷ 221 ∷ 220 ∷ 223 ∷ 222 ∷ 209 ∷ 208 ∷ 211 ∷ 210 ∷ 213 ∷ 212 ∷ 215 ∷ 214 ∷ 201 ∷ 200 ∷ 203 ∷ 202 ∷ 205 ∷ 204 ∷ 207 ∷ 206 ∷ 193 ∷ 192 ∷ 195 ∷ 194 ∷ 197 ∷ 196 ∷ 199 ∷ 198 ∷ 249 ∷ 248 ∷ 251 ∷ 250 ∷ 253 ∷ 252 ∷ 255 ∷ 254 ∷ 241 ∷ 240 ∷ 243 ∷ 242 ∷ 245 ∷ 244 ∷ 247 ∷ 246 ∷ 233 ∷ [])) (short_tag 97)) ∷ []) (Say.Drained 4)
    ∷ answered (Do.Post 0 0 (filled_line 189)) Say.Ok
    ∷ answered_with (Do.Drain 0) ((Seal 0 (ctr 0 50) (line_of (143 ∷ 142 ∷ 137 ∷ 136 ∷ 139 ∷ 138 ∷ 133 ∷ 132 ∷ 135 ∷ 134 ∷ 129 ∷ 128 ∷ 131 ∷ 130 ∷ 253 ∷ 252 ∷ 255 ∷ 254 ∷ 249 ∷ 248 ∷ 251 ∷ 250 ∷ 245 ∷ 244 ∷ 247 ∷ 246 ∷ 241 ∷ 240 ∷ 243 ∷ 242 ∷ 237 ∷ 236 ∷ 239 ∷ 238 ∷ 233 ∷ 232 ∷ 235 ∷ 234 ∷ 229 ∷ 228 ∷ 231 ∷ 230 ∷ 225 ∷ 224 ∷ 227 ∷ 226 ∷ 221 ∷ 220 ∷ 223 ∷ 222 ∷ 217 ∷ 216 ∷ 219 ∷ 218 ∷ 213 ∷ 212 ∷ 215 ∷ 214 ∷ 209 ∷ 208 ∷ 211 ∷ 210 ∷ 205 ∷ 204 ∷ [])) (short_tag 34)) ∷ []) (Say.Drained 4)
    ∷ answered (Do.Post 0 0 (filled_line 48)) Say.Ok
    ∷ answered_with (Do.Drain 0) ((Seal 0 (ctr 0 51) (line_of (range_with_len 3 13 ++ range_with_len 112 16 ++ range_with_len 96 16 ++ range_with_len 80 16 ++ 64 ∷ 65 ∷ 66 ∷ [])) (short_tag 99)) ∷ []) (Say.Drained 4)
    ∷ answered (Do.Post 0 0 (filled_line 156)) Say.Ok
    ∷ answered_with (Do.Drain 0) ((Seal 0 (ctr 0 52) (line_of (range_with_len 168 4 ++ range_with_len 164 4 ++ range_with_len 160 4 ++ range_with_len 220 4 ++ range_with_len 216 4 ++ range_with_len 212 4 ++ range_with_len 208 4 ++ range_with_len 204 4 ++ range_with_len 200 4 ++ range_with_len 196 4 ++ range_with_len 192 4 ++ range_with_len 252 4 ++ range_with_len 248 4 ++ range_with_len 244 4 ++ range_with_len 240 4 ++ range_with_len 236 4)) (short_tag 36)) ∷ []) (Say.Drained 5)
    ∷ answered (Do.Post 0 0 (filled_line 59)) Say.Ok
    ∷ answered_with (Do.Drain 0) ((Seal 0 (ctr 0 53) (line_of (14 ∷ 13 ∷ 12 ∷ 3 ∷ 2 ∷ 1 ∷ 0 ∷ 7 ∷ 6 ∷ 5 ∷ 4 ∷ 123 ∷ 122 ∷ 121 ∷ 120 ∷ 127 ∷ 126 ∷ 125 ∷ 124 ∷ 115 ∷ 114 ∷ 113 ∷ 112 ∷ 119 ∷ 118 ∷ 117 ∷ 116 ∷ 107 ∷ 106 ∷ 105 ∷ 104 ∷ 111 ∷ 110 ∷ 109 ∷ 108 ∷ 99 ∷ 98 ∷ 97 ∷ 96 ∷ 103 ∷ 102 ∷ 101 ∷ 100 ∷ 91 ∷ 90 ∷ 89 ∷ 88 ∷ 95 ∷ 94 ∷ 93 ∷ 92 ∷ 83 ∷ 82 ∷ 81 ∷ 80 ∷ 87 ∷ 86 ∷ 85 ∷ 84 ∷ 75 ∷ 74 ∷ 73 ∷ 72 ∷ 79 ∷ [])) (short_tag 101)) ∷ []) (Say.Drained 4)
    ∷ answered (Do.Post 0 0 (filled_line 246)) Say.Ok
    ∷ answered_with (Do.Drain 0) ((Seal 0 (ctr 0 54) (line_of (192 ∷ 193 ∷ 206 ∷ 207 ∷ 204 ∷ 205 ∷ 202 ∷ 203 ∷ 200 ∷ 201 ∷ 182 ∷ 183 ∷ 180 ∷ 181 ∷ 178 ∷ 179 ∷ 176 ∷ 177 ∷ 190 ∷ 191 ∷ 188 ∷ 189 ∷ 186 ∷ 187 ∷ 184 ∷ 185 ∷ 166 ∷ 167 ∷ 164 ∷ 165 ∷ 162 ∷ 163 ∷ 160 ∷ 161 ∷ 174 ∷ 175 ∷ 172 ∷ 173 ∷ 170 ∷ 171 ∷ 168 ∷ 169 ∷ 150 ∷ 151 ∷ 148 ∷ 149 ∷ 146 ∷ 147 ∷ 144 ∷ 145 ∷ 158 ∷ 159 ∷ 156 ∷ 157 ∷ 154 ∷ 155 ∷ 152 ∷ 153 ∷ 134 ∷ 135 ∷ 132 ∷ 133 ∷ 130 ∷ 131 ∷ [])) (short_tag 38)) ∷ []) (Say.Drained 4)
    ∷ answered (Do.Post 0 0 (filled_line 185)) Say.Ok
    ∷ answered_with (Do.Drain 0) ((Seal 0 (ctr 0 55) (line_of (142 ∷ 129 ∷ 128 ∷ 131 ∷ 130 ∷ 133 ∷ 132 ∷ 135 ∷ 134 ∷ 249 ∷ 248 ∷ 251 ∷ 250 ∷ 253 ∷ 252 ∷ 255 ∷ 254 ∷ 241 ∷ 240 ∷ 243 ∷ 242 ∷ 245 ∷ 244 ∷ 247 ∷ 246 ∷ 233 ∷ 232 ∷ 235 ∷ 234 ∷ 237 ∷ 236 ∷ 239 ∷ 238 ∷ 225 ∷ 224 ∷ 227 ∷ 226 ∷ 229 ∷ 228 ∷ 231 ∷ 230 ∷ 217 ∷ 216 ∷ 219 ∷ 218 ∷ 221 ∷ 220 ∷ 223 ∷ 222 ∷ 209 ∷ 208 ∷ 211 ∷ 210 ∷ 213 ∷ 212 ∷ 215 ∷ 214 ∷ 201 ∷ 200 ∷ 203 ∷ 202 ∷ 205 ∷ 204 ∷ 207 ∷ [])) (short_tag 103)) ∷ []) (Say.Drained 4)
    ∷ answered (Do.Post 0 0 (filled_line 248)) Say.Ok
    ∷ answered_with (Do.Drain 0) ((Seal 0 (ctr 0 56) (line_of (range_with_len 192 8 ++ range_with_len 184 8 ++ range_with_len 176 8 ++ range_with_len 168 8 ++ range_with_len 160 8 ++ range_with_len 152 8 ++ range_with_len 144 8 ++ range_with_len 136 8)) (short_tag 40)) ∷ []) (Say.Drained 5)
    ∷ answered (Do.Post 0 0 (filled_line 164)) Say.Ok
    ∷ answered_with (Do.Drain 0) ((Seal 0 (ctr 0 57) (line_of (157 ∷ 158 ∷ 159 ∷ range_with_len 152 4 ++ range_with_len 228 4 ++ range_with_len 224 4 ++ range_with_len 236 4 ++ range_with_len 232 4 ++ range_with_len 244 4 ++ range_with_len 240 4 ++ range_with_len 252 4 ++ range_with_len 248 4 ++ range_with_len 196 4 ++ range_with_len 192 4 ++ range_with_len 204 4 ++ range_with_len 200 4 ++ range_with_len 212 4 ++ range_with_len 208 4 ++ 220 ∷ [])) (short_tag 105)) ∷ []) (Say.Drained 4)
    ∷ answered (Do.Post 0 0 (filled_line 138)) Say.Ok
    ∷ answered_with (Do.Drain 0) ((Seal 0 (ctr 0 58) (line_of (176 ∷ 177 ∷ 182 ∷ 183 ∷ 180 ∷ 181 ∷ 202 ∷ 203 ∷ 200 ∷ 201 ∷ 206 ∷ 207 ∷ 204 ∷ 205 ∷ 194 ∷ 195 ∷ 192 ∷ 193 ∷ 198 ∷ 199 ∷ 196 ∷ 197 ∷ 218 ∷ 219 ∷ 216 ∷ 217 ∷ 222 ∷ 223 ∷ 220 ∷ 221 ∷ 210 ∷ 211 ∷ 208 ∷ 209 ∷ 214 ∷ 215 ∷ 212 ∷ 213 ∷ 234 ∷ 235 ∷ 232 ∷ 233 ∷ 238 ∷ 239 ∷ 236 ∷ 237 ∷ 226 ∷ 227 ∷ 224 ∷ 225 ∷ 230 ∷ 231 ∷ 228 ∷ 229 ∷ 250 ∷ 251 ∷ 248 ∷ 249 ∷ 254 ∷ 255 ∷ 252 ∷ 253 ∷ 242 ∷ 243 ∷ [])) (short_tag 42)) ∷ []) (Say.Drained 4)
    ∷ answered (Do.Post 0 0 (filled_line 216)) Say.Ok
    ∷ answered_with (Do.Drain 0) ((Seal 0 (ctr 0 59) (line_of (range_with_len 227 5 ++ range_with_len 152 8 ++ range_with_len 144 8 ++ range_with_len 136 8 ++ range_with_len 128 8 ++ range_with_len 184 8 ++ range_with_len 176 8 ++ range_with_len 168 8 ++ 160 ∷ 161 ∷ 162 ∷ [])) (short_tag 107)) ∷ []) (Say.Drained 4)
    ∷ answered (Do.Post 0 0 (filled_line 117)) Say.Ok
    ∷ answered_with (Do.Drain 0) ((Seal 0 (ctr 0 60) (line_of (73 ∷ 72 ∷ 75 ∷ 74 ∷ 53 ∷ 52 ∷ 55 ∷ 54 ∷ 49 ∷ 48 ∷ 51 ∷ 50 ∷ 61 ∷ 60 ∷ 63 ∷ 62 ∷ 57 ∷ 56 ∷ 59 ∷ 58 ∷ 37 ∷ 36 ∷ 39 ∷ 38 ∷ 33 ∷ 32 ∷ 35 ∷ 34 ∷ 45 ∷ 44 ∷ 47 ∷ 46 ∷ 41 ∷ 40 ∷ 43 ∷ 42 ∷ 21 ∷ 20 ∷ 23 ∷ 22 ∷ 17 ∷ 16 ∷ 19 ∷ 18 ∷ 29 ∷ 28 ∷ 31 ∷ 30 ∷ 25 ∷ 24 ∷ 27 ∷ 26 ∷ 5 ∷ 4 ∷ 7 ∷ 6 ∷ 1 ∷ 0 ∷ 3 ∷ 2 ∷ 13 ∷ 12 ∷ 15 ∷ 14 ∷ [])) (short_tag 44)) ∷ []) (Say.Drained 5)
    ∷ answered (Do.Post 0 0 (filled_line 125)) Say.Ok
    ∷ answered_with (Do.Drain 0) ((Seal 0 (ctr 0 61) (line_of (64 ∷ 67 ∷ 66 ∷ 61 ∷ 60 ∷ 63 ∷ 62 ∷ 57 ∷ 56 ∷ 59 ∷ 58 ∷ 53 ∷ 52 ∷ 55 ∷ 54 ∷ 49 ∷ 48 ∷ 51 ∷ 50 ∷ 45 ∷ 44 ∷ 47 ∷ 46 ∷ 41 ∷ 40 ∷ 43 ∷ 42 ∷ 37 ∷ 36 ∷ 39 ∷ 38 ∷ 33 ∷ 32 ∷ 35 ∷ 34 ∷ 29 ∷ 28 ∷ 31 ∷ 30 ∷ 25 ∷ 24 ∷ 27 ∷ 26 ∷ 21 ∷ 20 ∷ 23 ∷ 22 ∷ 17 ∷ 16 ∷ 19 ∷ 18 ∷ 13 ∷ 12 ∷ 15 ∷ 14 ∷ 9 ∷ 8 ∷ 11 ∷ 10 ∷ 5 ∷ 4 ∷ 7 ∷ 6 ∷ 1 ∷ [])) (short_tag 109)) ∷ []) (Say.Drained 4)
    ∷ answered (Do.Post 0 0 (filled_line 224)) Say.Ok
    ∷ answered_with (Do.Drain 0) ((Seal 0 (ctr 0 62) (line_of (222 ∷ 223 ∷ range_with_len 160 32 ++ range_with_len 128 30)) (short_tag 46)) ∷ []) (Say.Drained 4)
    ∷ answered (Do.Post 0 0 (filled_line 122)) Say.Ok
    ∷ answered_with (Do.Drain 0) ((Seal 0 (ctr 0 63) (line_of (69 ∷ 58 ∷ 59 ∷ 56 ∷ 57 ∷ 62 ∷ 63 ∷ 60 ∷ 61 ∷ 50 ∷ 51 ∷ 48 ∷ 49 ∷ 54 ∷ 55 ∷ 52 ∷ 53 ∷ 42 ∷ 43 ∷ 40 ∷ 41 ∷ 46 ∷ 47 ∷ 44 ∷ 45 ∷ 34 ∷ 35 ∷ 32 ∷ 33 ∷ 38 ∷ 39 ∷ 36 ∷ 37 ∷ 26 ∷ 27 ∷ 24 ∷ 25 ∷ 30 ∷ 31 ∷ 28 ∷ 29 ∷ 18 ∷ 19 ∷ 16 ∷ 17 ∷ 22 ∷ 23 ∷ 20 ∷ 21 ∷ 10 ∷ 11 ∷ 8 ∷ 9 ∷ 14 ∷ 15 ∷ 12 ∷ 13 ∷ 2 ∷ 3 ∷ 0 ∷ 1 ∷ 6 ∷ 7 ∷ 4 ∷ [])) (short_tag 111)) ∷ []) (Say.Drained 4)
    ∷ answered (Do.Post 0 0 (filled_line 39)) Say.Ok
    ∷ answered_with (Do.Drain 0) ((Seal 0 (ctr 0 64) (line_of (103 ∷ 102 ∷ 101 ∷ 100 ∷ 99 ∷ 98 ∷ 97 ∷ 96 ∷ 111 ∷ 110 ∷ 109 ∷ 108 ∷ 107 ∷ 106 ∷ 105 ∷ 104 ∷ 119 ∷ 118 ∷ 117 ∷ 116 ∷ 115 ∷ 114 ∷ 113 ∷ 112 ∷ 127 ∷ 126 ∷ 125 ∷ 124 ∷ 123 ∷ 122 ∷ 121 ∷ 120 ∷ 71 ∷ 70 ∷ 69 ∷ 68 ∷ 67 ∷ 66 ∷ 65 ∷ 64 ∷ 79 ∷ 78 ∷ 77 ∷ 76 ∷ 75 ∷ 74 ∷ 73 ∷ 72 ∷ 87 ∷ 86 ∷ 85 ∷ 84 ∷ 83 ∷ 82 ∷ 81 ∷ 80 ∷ 95 ∷ 94 ∷ 93 ∷ 92 ∷ 91 ∷ 90 ∷ 89 ∷ 88 ∷ [])) (short_tag 80)) ∷ []) (Say.Drained 5)
    ∷ answered (Do.Post 0 0 (filled_line 37)) Say.Ok
    ∷ answered_with (Do.Drain 0) ((Seal 0 (ctr 0 65) (line_of (100 ∷ 103 ∷ 102 ∷ 97 ∷ 96 ∷ 99 ∷ 98 ∷ 109 ∷ 108 ∷ 111 ∷ 110 ∷ 105 ∷ 104 ∷ 107 ∷ 106 ∷ 117 ∷ 116 ∷ 119 ∷ 118 ∷ 113 ∷ 112 ∷ 115 ∷ 114 ∷ 125 ∷ 124 ∷ 127 ∷ 126 ∷ 121 ∷ 120 ∷ 123 ∷ 122 ∷ 69 ∷ 68 ∷ 71 ∷ 70 ∷ 65 ∷ 64 ∷ 67 ∷ 66 ∷ 77 ∷ 76 ∷ 79 ∷ 78 ∷ 73 ∷ 72 ∷ 75 ∷ 74 ∷ 85 ∷ 84 ∷ 87 ∷ 86 ∷ 81 ∷ 80 ∷ 83 ∷ 82 ∷ 93 ∷ 92 ∷ 95 ∷ 94 ∷ 89 ∷ 88 ∷ 91 ∷ 90 ∷ 165 ∷ [])) (short_tag 145)) ∷ []) (Say.Drained 4)
    ∷ answered (Do.Post 0 0 (filled_line 75)) Say.Ok
    ∷ answered_with (Do.Drain 0) ((Seal 0 (ctr 0 66) (line_of (9 ∷ 8 ∷ 15 ∷ 14 ∷ 13 ∷ 12 ∷ 3 ∷ 2 ∷ 1 ∷ 0 ∷ 7 ∷ 6 ∷ 5 ∷ 4 ∷ 27 ∷ 26 ∷ 25 ∷ 24 ∷ 31 ∷ 30 ∷ 29 ∷ 28 ∷ 19 ∷ 18 ∷ 17 ∷ 16 ∷ 23 ∷ 22 ∷ 21 ∷ 20 ∷ 43 ∷ 42 ∷ 41 ∷ 40 ∷ 47 ∷ 46 ∷ 45 ∷ 44 ∷ 35 ∷ 34 ∷ 33 ∷ 32 ∷ 39 ∷ 38 ∷ 37 ∷ 36 ∷ 59 ∷ 58 ∷ 57 ∷ 56 ∷ 63 ∷ 62 ∷ 61 ∷ 60 ∷ 51 ∷ 50 ∷ 49 ∷ 48 ∷ 55 ∷ 54 ∷ 53 ∷ 52 ∷ 203 ∷ 202 ∷ [])) (short_tag 82)) ∷ []) (Say.Drained 4)
    ∷ answered (Do.Post 0 0 (filled_line 147)) Say.Ok
    ∷ answered_with (Do.Drain 0) ((Seal 0 (ctr 0 67) (line_of (208 ∷ 215 ∷ 214 ∷ 213 ∷ 212 ∷ 219 ∷ 218 ∷ 217 ∷ 216 ∷ 223 ∷ 222 ∷ 221 ∷ 220 ∷ 195 ∷ 194 ∷ 193 ∷ 192 ∷ 199 ∷ 198 ∷ 197 ∷ 196 ∷ 203 ∷ 202 ∷ 201 ∷ 200 ∷ 207 ∷ 206 ∷ 205 ∷ 204 ∷ 243 ∷ 242 ∷ 241 ∷ 240 ∷ 247 ∷ 246 ∷ 245 ∷ 244 ∷ 251 ∷ 250 ∷ 249 ∷ 248 ∷ 255 ∷ 254 ∷ 253 ∷ 252 ∷ 227 ∷ 226 ∷ 225 ∷ 224 ∷ 231 ∷ 230 ∷ 229 ∷ 228 ∷ 235 ∷ 234 ∷ 233 ∷ 232 ∷ 239 ∷ 238 ∷ 237 ∷ 236 ∷ 19 ∷ 18 ∷ 17 ∷ [])) (short_tag 147)) ∷ []) (Say.Drained 4)
    ∷ answered (Do.Post 0 0 (filled_line 203)) Say.Ok
    ∷ answered_with (Do.Drain 0) ((Seal 0 (ctr 0 68) (line_of (143 ∷ 142 ∷ 141 ∷ 140 ∷ 131 ∷ 130 ∷ 129 ∷ 128 ∷ 135 ∷ 134 ∷ 133 ∷ 132 ∷ 155 ∷ 154 ∷ 153 ∷ 152 ∷ 159 ∷ 158 ∷ 157 ∷ 156 ∷ 147 ∷ 146 ∷ 145 ∷ 144 ∷ 151 ∷ 150 ∷ 149 ∷ 148 ∷ 171 ∷ 170 ∷ 169 ∷ 168 ∷ 175 ∷ 174 ∷ 173 ∷ 172 ∷ 163 ∷ 162 ∷ 161 ∷ 160 ∷ 167 ∷ 166 ∷ 165 ∷ 164 ∷ 187 ∷ 186 ∷ 185 ∷ 184 ∷ 191 ∷ 190 ∷ 189 ∷ 188 ∷ 179 ∷ 178 ∷ 177 ∷ 176 ∷ 183 ∷ 182 ∷ 181 ∷ 180 ∷ 75 ∷ 74 ∷ 73 ∷ 72 ∷ [])) (short_tag 84)) ∷ []) (Say.Drained 5)
    ∷ answered (Do.Post 0 0 (filled_line 237)) Say.Ok
    ∷ answered_with (Do.Drain 0) ((Seal 0 (ctr 0 69) (line_of (168 ∷ 171 ∷ 170 ∷ 165 ∷ 164 ∷ 167 ∷ 166 ∷ 161 ∷ 160 ∷ 163 ∷ 162 ∷ 189 ∷ 188 ∷ 191 ∷ 190 ∷ 185 ∷ 184 ∷ 187 ∷ 186 ∷ 181 ∷ 180 ∷ 183 ∷ 182 ∷ 177 ∷ 176 ∷ 179 ∷ 178 ∷ 141 ∷ 140 ∷ 143 ∷ 142 ∷ 137 ∷ 136 ∷ 139 ∷ 138 ∷ 133 ∷ 132 ∷ 135 ∷ 134 ∷ 129 ∷ 128 ∷ 131 ∷ 130 ∷ 157 ∷ 156 ∷ 159 ∷ 158 ∷ 153 ∷ 152 ∷ 155 ∷ 154 ∷ 149 ∷ 148 ∷ 151 ∷ 150 ∷ 145 ∷ 144 ∷ 147 ∷ 146 ∷ 109 ∷ 108 ∷ 111 ∷ 110 ∷ 105 ∷ [])) (short_tag 149)) ∷ []) (Say.Drained 4)
    ∷ answered (Do.Post 0 0 (filled_line 41)) Say.Ok
    ∷ answered_with (Do.Drain 0) ((Seal 0 (ctr 0 70) (line_of (111 ∷ 110 ∷ 97 ∷ 96 ∷ 99 ∷ 98 ∷ 101 ∷ 100 ∷ 103 ∷ 102 ∷ 121 ∷ 120 ∷ 123 ∷ 122 ∷ 125 ∷ 124 ∷ 127 ∷ 126 ∷ 113 ∷ 112 ∷ 115 ∷ 114 ∷ 117 ∷ 116 ∷ 119 ∷ 118 ∷ 73 ∷ 72 ∷ 75 ∷ 74 ∷ 77 ∷ 76 ∷ 79 ∷ 78 ∷ 65 ∷ 64 ∷ 67 ∷ 66 ∷ 69 ∷ 68 ∷ 71 ∷ 70 ∷ 89 ∷ 88 ∷ 91 ∷ 90 ∷ 93 ∷ 92 ∷ 95 ∷ 94 ∷ 81 ∷ 80 ∷ 83 ∷ 82 ∷ 85 ∷ 84 ∷ 87 ∷ 86 ∷ 169 ∷ 168 ∷ 171 ∷ 170 ∷ 173 ∷ 172 ∷ [])) (short_tag 86)) ∷ []) (Say.Drained 4)
    ∷ answered (Do.Post 0 0 (filled_line 45)) Say.Ok
    ∷ answered_with (Do.Drain 0) ((Seal 0 (ctr 0 71) (line_of (106 ∷ 101 ∷ 100 ∷ 103 ∷ 102 ∷ 97 ∷ 96 ∷ 99 ∷ 98 ∷ 125 ∷ 124 ∷ 127 ∷ 126 ∷ 121 ∷ 120 ∷ 123 ∷ 122 ∷ 117 ∷ 116 ∷ 119 ∷ 118 ∷ 113 ∷ 112 ∷ 115 ∷ 114 ∷ 77 ∷ 76 ∷ 79 ∷ 78 ∷ 73 ∷ 72 ∷ 75 ∷ 74 ∷ 69 ∷ 68 ∷ 71 ∷ 70 ∷ 65 ∷ 64 ∷ 67 ∷ 66 ∷ 93 ∷ 92 ∷ 95 ∷ 94 ∷ 89 ∷ 88 ∷ 91 ∷ 90 ∷ 85 ∷ 84 ∷ 87 ∷ 86 ∷ 81 ∷ 80 ∷ 83 ∷ 82 ∷ 173 ∷ 172 ∷ 175 ∷ 174 ∷ 169 ∷ 168 ∷ 171 ∷ [])) (short_tag 151)) ∷ []) (Say.Drained 4)
    ∷ answered (Do.Post 0 0 (filled_line 225)) Say.Ok
    ∷ answered_with (Do.Drain 0) ((Seal 0 (ctr 0 72) (line_of (169 ∷ 168 ∷ 171 ∷ 170 ∷ 173 ∷ 172 ∷ 175 ∷ 174 ∷ 177 ∷ 176 ∷ 179 ∷ 178 ∷ 181 ∷ 180 ∷ 183 ∷ 182 ∷ 185 ∷ 184 ∷ 187 ∷ 186 ∷ 189 ∷ 188 ∷ 191 ∷ 190 ∷ 129 ∷ 128 ∷ 131 ∷ 130 ∷ 133 ∷ 132 ∷ 135 ∷ 134 ∷ 137 ∷ 136 ∷ 139 ∷ 138 ∷ 141 ∷ 140 ∷ 143 ∷ 142 ∷ 145 ∷ 144 ∷ 147 ∷ 146 ∷ 149 ∷ 148 ∷ 151 ∷ 150 ∷ 153 ∷ 152 ∷ 155 ∷ 154 ∷ 157 ∷ 156 ∷ 159 ∷ 158 ∷ 97 ∷ 96 ∷ 99 ∷ 98 ∷ 101 ∷ 100 ∷ 103 ∷ 102 ∷ [])) (short_tag 88)) ∷ []) (Say.Drained 5)
    ∷ answered (Do.Post 0 0 (filled_line 75)) Say.Ok
    ∷ answered_with (Do.Drain 0) ((Seal 0 (ctr 0 73) (line_of (2 ∷ 1 ∷ 0 ∷ 7 ∷ 6 ∷ 5 ∷ 4 ∷ 27 ∷ 26 ∷ 25 ∷ 24 ∷ 31 ∷ 30 ∷ 29 ∷ 28 ∷ 19 ∷ 18 ∷ 17 ∷ 16 ∷ 23 ∷ 22 ∷ 21 ∷ 20 ∷ 43 ∷ 42 ∷ 41 ∷ 40 ∷ 47 ∷ 46 ∷ 45 ∷ 44 ∷ 35 ∷ 34 ∷ 33 ∷ 32 ∷ 39 ∷ 38 ∷ 37 ∷ 36 ∷ 59 ∷ 58 ∷ 57 ∷ 56 ∷ 63 ∷ 62 ∷ 61 ∷ 60 ∷ 51 ∷ 50 ∷ 49 ∷ 48 ∷ 55 ∷ 54 ∷ 53 ∷ 52 ∷ 203 ∷ 202 ∷ 201 ∷ 200 ∷ 207 ∷ 206 ∷ 205 ∷ 204 ∷ 195 ∷ [])) (short_tag 153)) ∷ []) (Say.Drained 4)
    ∷ answered (Do.Post 0 0 (filled_line 254)) Say.Ok
    ∷ answered_with (Do.Drain 0) ((Seal 0 (ctr 0 74) (line_of (180 ∷ 181 ∷ 178 ∷ 179 ∷ 176 ∷ 177 ∷ 174 ∷ 175 ∷ 172 ∷ 173 ∷ 170 ∷ 171 ∷ 168 ∷ 169 ∷ 166 ∷ 167 ∷ 164 ∷ 165 ∷ 162 ∷ 163 ∷ 160 ∷ 161 ∷ 158 ∷ 159 ∷ 156 ∷ 157 ∷ 154 ∷ 155 ∷ 152 ∷ 153 ∷ 150 ∷ 151 ∷ 148 ∷ 149 ∷ 146 ∷ 147 ∷ 144 ∷ 145 ∷ 142 ∷ 143 ∷ 140 ∷ 141 ∷ 138 ∷ 139 ∷ 136 ∷ 137 ∷ 134 ∷ 135 ∷ 132 ∷ 133 ∷ 130 ∷ 131 ∷ 128 ∷ 129 ∷ 126 ∷ 127 ∷ 124 ∷ 125 ∷ 122 ∷ 123 ∷ 120 ∷ 121 ∷ 118 ∷ 119 ∷ [])) (short_tag 90)) ∷ []) (Say.Drained 4)
    ∷ answered (Do.Post 0 0 (filled_line 109)) Say.Ok
    ∷ answered_with (Do.Drain 0) ((Seal 0 (ctr 0 75) (line_of (38 ∷ 33 ∷ 32 ∷ 35 ∷ 34 ∷ 61 ∷ 60 ∷ 63 ∷ 62 ∷ 57 ∷ 56 ∷ 59 ∷ 58 ∷ 53 ∷ 52 ∷ 55 ∷ 54 ∷ 49 ∷ 48 ∷ 51 ∷ 50 ∷ 13 ∷ 12 ∷ 15 ∷ 14 ∷ 9 ∷ 8 ∷ 11 ∷ 10 ∷ 5 ∷ 4 ∷ 7 ∷ 6 ∷ 1 ∷ 0 ∷ 3 ∷ 2 ∷ 29 ∷ 28 ∷ 31 ∷ 30 ∷ 25 ∷ 24 ∷ 27 ∷ 26 ∷ 21 ∷ 20 ∷ 23 ∷ 22 ∷ 17 ∷ 16 ∷ 19 ∷ 18 ∷ 237 ∷ 236 ∷ 239 ∷ 238 ∷ 233 ∷ 232 ∷ 235 ∷ 234 ∷ 229 ∷ 228 ∷ 231 ∷ [])) (short_tag 155)) ∷ []) (Say.Drained 4)
    ∷ answered (Do.Post 0 0 (filled_line 162)) Say.Ok
    ∷ answered_with (Do.Drain 0) ((Seal 0 (ctr 0 76) (line_of (238 ∷ 239 ∷ 236 ∷ 237 ∷ 242 ∷ 243 ∷ 240 ∷ 241 ∷ 246 ∷ 247 ∷ 244 ∷ 245 ∷ 250 ∷ 251 ∷ 248 ∷ 249 ∷ 254 ∷ 255 ∷ 252 ∷ 253 ∷ 194 ∷ 195 ∷ 192 ∷ 193 ∷ 198 ∷ 199 ∷ 196 ∷ 197 ∷ 202 ∷ 203 ∷ 200 ∷ 201 ∷ 206 ∷ 207 ∷ 204 ∷ 205 ∷ 210 ∷ 211 ∷ 208 ∷ 209 ∷ 214 ∷ 215 ∷ 212 ∷ 213 ∷ 218 ∷ 219 ∷ 216 ∷ 217 ∷ 222 ∷ 223 ∷ 220 ∷ 221 ∷ 34 ∷ 35 ∷ 32 ∷ 33 ∷ 38 ∷ 39 ∷ 36 ∷ 37 ∷ 42 ∷ 43 ∷ 40 ∷ 41 ∷ [])) (short_tag 92)) ∷ []) (Say.Drained 5)
    ∷ answered (Do.Post 0 0 (filled_line 95)) Say.Ok
    ∷ answered_with (Do.Drain 0) ((Seal 0 (ctr 0 77) (line_of (18 ∷ 17 ∷ 16 ∷ 15 ∷ 14 ∷ 13 ∷ 12 ∷ 11 ∷ 10 ∷ 9 ∷ 8 ∷ 7 ∷ 6 ∷ 5 ∷ 4 ∷ 3 ∷ 2 ∷ 1 ∷ 0 ∷ 63 ∷ 62 ∷ 61 ∷ 60 ∷ 59 ∷ 58 ∷ 57 ∷ 56 ∷ 55 ∷ 54 ∷ 53 ∷ 52 ∷ 51 ∷ 50 ∷ 49 ∷ 48 ∷ 47 ∷ 46 ∷ 45 ∷ 44 ∷ 43 ∷ 42 ∷ 41 ∷ 40 ∷ 39 ∷ 38 ∷ 37 ∷ 36 ∷ 35 ∷ 34 ∷ 33 ∷ 32 ∷ 223 ∷ 222 ∷ 221 ∷ 220 ∷ 219 ∷ 218 ∷ 217 ∷ 216 ∷ 215 ∷ 214 ∷ 213 ∷ 212 ∷ 211 ∷ [])) (short_tag 157)) ∷ []) (Say.Drained 4)
    ∷ answered (Do.Post 0 0 (filled_line 212)) Say.Ok
    ∷ answered_with (Do.Drain 0) ((Seal 0 (ctr 0 78) (line_of (154 ∷ 155 ∷ range_with_len 132 4 ++ range_with_len 128 4 ++ range_with_len 140 4 ++ range_with_len 136 4 ++ range_with_len 180 4 ++ range_with_len 176 4 ++ range_with_len 188 4 ++ range_with_len 184 4 ++ range_with_len 164 4 ++ range_with_len 160 4 ++ range_with_len 172 4 ++ range_with_len 168 4 ++ range_with_len 84 4 ++ range_with_len 80 4 ++ range_with_len 92 4 ++ 88 ∷ 89 ∷ [])) (short_tag 94)) ∷ []) (Say.Drained 4)
    ∷ answered (Do.Post 0 0 (filled_line 55)) Say.Ok
    ∷ answered_with (Do.Drain 0) ((Seal 0 (ctr 0 79) (line_of (120 ∷ 103 ∷ 102 ∷ 101 ∷ 100 ∷ 99 ∷ 98 ∷ 97 ∷ 96 ∷ 111 ∷ 110 ∷ 109 ∷ 108 ∷ 107 ∷ 106 ∷ 105 ∷ 104 ∷ 87 ∷ 86 ∷ 85 ∷ 84 ∷ 83 ∷ 82 ∷ 81 ∷ 80 ∷ 95 ∷ 94 ∷ 93 ∷ 92 ∷ 91 ∷ 90 ∷ 89 ∷ 88 ∷ 71 ∷ 70 ∷ 69 ∷ 68 ∷ 67 ∷ 66 ∷ 65 ∷ 64 ∷ 79 ∷ 78 ∷ 77 ∷ 76 ∷ 75 ∷ 74 ∷ 73 ∷ 72 ∷ 183 ∷ 182 ∷ 181 ∷ 180 ∷ 179 ∷ 178 ∷ 177 ∷ 176 ∷ 191 ∷ 190 ∷ 189 ∷ 188 ∷ 187 ∷ 186 ∷ 185 ∷ [])) (short_tag 159)) ∷ []) (Say.Drained 4)
    ∷ answered (Do.Post 0 0 (filled_line 139)) Say.Ok
    ∷ answered_with (Do.Drain 0) ((Seal 0 (ctr 0 80) (line_of (219 ∷ 218 ∷ 217 ∷ 216 ∷ 223 ∷ 222 ∷ 221 ∷ 220 ∷ 211 ∷ 210 ∷ 209 ∷ 208 ∷ 215 ∷ 214 ∷ 213 ∷ 212 ∷ 235 ∷ 234 ∷ 233 ∷ 232 ∷ 239 ∷ 238 ∷ 237 ∷ 236 ∷ 227 ∷ 226 ∷ 225 ∷ 224 ∷ 231 ∷ 230 ∷ 229 ∷ 228 ∷ 251 ∷ 250 ∷ 249 ∷ 248 ∷ 255 ∷ 254 ∷ 253 ∷ 252 ∷ 243 ∷ 242 ∷ 241 ∷ 240 ∷ 247 ∷ 246 ∷ 245 ∷ 244 ∷ 11 ∷ 10 ∷ 9 ∷ 8 ∷ 15 ∷ 14 ∷ 13 ∷ 12 ∷ 3 ∷ 2 ∷ 1 ∷ 0 ∷ 7 ∷ 6 ∷ 5 ∷ 4 ∷ [])) (short_tag 64)) ∷ []) (Say.Drained 5)
    ∷ answered (Do.Post 0 0 (filled_line 163)) Say.Ok
    ∷ answered_with (Do.Drain 0) ((Seal 0 (ctr 0 81) (line_of (242 ∷ 241 ∷ 240 ∷ 247 ∷ 246 ∷ 245 ∷ 244 ∷ 251 ∷ 250 ∷ 249 ∷ 248 ∷ 255 ∷ 254 ∷ 253 ∷ 252 ∷ 195 ∷ 194 ∷ 193 ∷ 192 ∷ 199 ∷ 198 ∷ 197 ∷ 196 ∷ 203 ∷ 202 ∷ 201 ∷ 200 ∷ 207 ∷ 206 ∷ 205 ∷ 204 ∷ 211 ∷ 210 ∷ 209 ∷ 208 ∷ 215 ∷ 214 ∷ 213 ∷ 212 ∷ 219 ∷ 218 ∷ 217 ∷ 216 ∷ 223 ∷ 222 ∷ 221 ∷ 220 ∷ 35 ∷ 34 ∷ 33 ∷ 32 ∷ 39 ∷ 38 ∷ 37 ∷ 36 ∷ 43 ∷ 42 ∷ 41 ∷ 40 ∷ 47 ∷ 46 ∷ 45 ∷ 44 ∷ 51 ∷ [])) (short_tag 129)) ∷ []) (Say.Drained 4)
    ∷ answered (Do.Post 0 0 (filled_line 166)) Say.Ok
    ∷ answered_with (Do.Drain 0) ((Seal 0 (ctr 0 82) (line_of (244 ∷ 245 ∷ 242 ∷ 243 ∷ 240 ∷ 241 ∷ 254 ∷ 255 ∷ 252 ∷ 253 ∷ 250 ∷ 251 ∷ 248 ∷ 249 ∷ 198 ∷ 199 ∷ 196 ∷ 197 ∷ 194 ∷ 195 ∷ 192 ∷ 193 ∷ 206 ∷ 207 ∷ 204 ∷ 205 ∷ 202 ∷ 203 ∷ 200 ∷ 201 ∷ 214 ∷ 215 ∷ 212 ∷ 213 ∷ 210 ∷ 211 ∷ 208 ∷ 209 ∷ 222 ∷ 223 ∷ 220 ∷ 221 ∷ 218 ∷ 219 ∷ 216 ∷ 217 ∷ 38 ∷ 39 ∷ 36 ∷ 37 ∷ 34 ∷ 35 ∷ 32 ∷ 33 ∷ 46 ∷ 47 ∷ 44 ∷ 45 ∷ 42 ∷ 43 ∷ 40 ∷ 41 ∷ 54 ∷ 55 ∷ [])) (short_tag 66)) ∷ []) (Say.Drained 4)
    ∷ answered (Do.Post 0 0 (filled_line 136)) Say.Ok
    ∷ answered_with (Do.Drain 0) ((Seal 0 (ctr 0 83) (line_of (range_with_len 219 5 ++ range_with_len 208 8 ++ range_with_len 232 8 ++ range_with_len 224 8 ++ range_with_len 248 8 ++ range_with_len 240 8 ++ range_with_len 8 8 ++ range_with_len 0 8 ++ 24 ∷ 25 ∷ 26 ∷ [])) (short_tag 131)) ∷ []) (Say.Drained 4)
    ∷ answered (Do.Post 0 0 (filled_line 54)) Say.Ok
    ∷ answered_with (Do.Drain 0) ((Seal 0 (ctr 0 84) (line_of (98 ∷ 99 ∷ 96 ∷ 97 ∷ 110 ∷ 111 ∷ 108 ∷ 109 ∷ 106 ∷ 107 ∷ 104 ∷ 105 ∷ 86 ∷ 87 ∷ 84 ∷ 85 ∷ 82 ∷ 83 ∷ 80 ∷ 81 ∷ 94 ∷ 95 ∷ 92 ∷ 93 ∷ 90 ∷ 91 ∷ 88 ∷ 89 ∷ 70 ∷ 71 ∷ 68 ∷ 69 ∷ 66 ∷ 67 ∷ 64 ∷ 65 ∷ 78 ∷ 79 ∷ 76 ∷ 77 ∷ 74 ∷ 75 ∷ 72 ∷ 73 ∷ 182 ∷ 183 ∷ 180 ∷ 181 ∷ 178 ∷ 179 ∷ 176 ∷ 177 ∷ 190 ∷ 191 ∷ 188 ∷ 189 ∷ 186 ∷ 187 ∷ 184 ∷ 185 ∷ 166 ∷ 167 ∷ 164 ∷ 165 ∷ [])) (short_tag 68)) ∷ []) (Say.Drained 5)
    ∷ answered (Do.Post 0 0 (filled_line 101)) Say.Ok
    ∷ answered_with (Do.Drain 0) ((Seal 0 (ctr 0 85) (line_of (48 ∷ 51 ∷ 50 ∷ 61 ∷ 60 ∷ 63 ∷ 62 ∷ 57 ∷ 56 ∷ 59 ∷ 58 ∷ 5 ∷ 4 ∷ 7 ∷ 6 ∷ 1 ∷ 0 ∷ 3 ∷ 2 ∷ 13 ∷ 12 ∷ 15 ∷ 14 ∷ 9 ∷ 8 ∷ 11 ∷ 10 ∷ 21 ∷ 20 ∷ 23 ∷ 22 ∷ 17 ∷ 16 ∷ 19 ∷ 18 ∷ 29 ∷ 28 ∷ 31 ∷ 30 ∷ 25 ∷ 24 ∷ 27 ∷ 26 ∷ 229 ∷ 228 ∷ 231 ∷ 230 ∷ 225 ∷ 224 ∷ 227 ∷ 226 ∷ 237 ∷ 236 ∷ 239 ∷ 238 ∷ 233 ∷ 232 ∷ 235 ∷ 234 ∷ 245 ∷ 244 ∷ 247 ∷ 246 ∷ 241 ∷ [])) (short_tag 133)) ∷ []) (Say.Drained 4)
    ∷ answered (Do.Post 0 0 (filled_line 64)) Say.Ok
    ∷ answered_with (Do.Drain 0) ((Seal 0 (ctr 0 86) (line_of (range_with_len 22 42 ++ range_with_len 192 22)) (short_tag 70)) ∷ []) (Say.Drained 4)
    ∷ answered (Do.Post 0 0 (filled_line 247)) Say.Ok
    ∷ answered_with (Do.Drain 0) ((Seal 0 (ctr 0 87) (line_of (160 ∷ 175 ∷ 174 ∷ 173 ∷ 172 ∷ 171 ∷ 170 ∷ 169 ∷ 168 ∷ 151 ∷ 150 ∷ 149 ∷ 148 ∷ 147 ∷ 146 ∷ 145 ∷ 144 ∷ 159 ∷ 158 ∷ 157 ∷ 156 ∷ 155 ∷ 154 ∷ 153 ∷ 152 ∷ 135 ∷ 134 ∷ 133 ∷ 132 ∷ 131 ∷ 130 ∷ 129 ∷ 128 ∷ 143 ∷ 142 ∷ 141 ∷ 140 ∷ 139 ∷ 138 ∷ 137 ∷ 136 ∷ 119 ∷ 118 ∷ 117 ∷ 116 ∷ 115 ∷ 114 ∷ 113 ∷ 112 ∷ 127 ∷ 126 ∷ 125 ∷ 124 ∷ 123 ∷ 122 ∷ 121 ∷ 120 ∷ 103 ∷ 102 ∷ 101 ∷ 100 ∷ 99 ∷ 98 ∷ 97 ∷ [])) (short_tag 135)) ∷ []) (Say.Drained 4)
    ∷ answered (Do.Post 0 0 (filled_line 208)) Say.Ok
    ∷ answered_with (Do.Drain 0) ((Seal 0 (ctr 0 88) (line_of (range_with_len 136 8 ++ range_with_len 176 16 ++ range_with_len 160 16 ++ range_with_len 80 16 ++ range_with_len 64 8)) (short_tag 72)) ∷ []) (Say.Drained 5)
    ∷ answered (Do.Post 0 0 (filled_line 213)) Say.Ok
    ∷ answered_with (Do.Drain 0) ((Seal 0 (ctr 0 89) (line_of (140 ∷ 143 ∷ 142 ∷ 137 ∷ 136 ∷ 139 ∷ 138 ∷ 181 ∷ 180 ∷ 183 ∷ 182 ∷ 177 ∷ 176 ∷ 179 ∷ 178 ∷ 189 ∷ 188 ∷ 191 ∷ 190 ∷ 185 ∷ 184 ∷ 187 ∷ 186 ∷ 165 ∷ 164 ∷ 167 ∷ 166 ∷ 161 ∷ 160 ∷ 163 ∷ 162 ∷ 173 ∷ 172 ∷ 175 ∷ 174 ∷ 169 ∷ 168 ∷ 171 ∷ 170 ∷ 85 ∷ 84 ∷ 87 ∷ 86 ∷ 81 ∷ 80 ∷ 83 ∷ 82 ∷ 93 ∷ 92 ∷ 95 ∷ 94 ∷ 89 ∷ 88 ∷ 91 ∷ 90 ∷ 69 ∷ 68 ∷ 71 ∷ 70 ∷ 65 ∷ 64 ∷ 67 ∷ 66 ∷ 77 ∷ [])) (short_tag 137)) ∷ []) (Say.Drained 4)
    ∷ answered (Do.Post 0 0 (filled_line 162)) Say.Ok
    ∷ answered_with (Do.Drain 0) ((Seal 0 (ctr 0 90) (line_of (248 ∷ 249 ∷ 254 ∷ 255 ∷ 252 ∷ 253 ∷ 194 ∷ 195 ∷ 192 ∷ 193 ∷ 198 ∷ 199 ∷ 196 ∷ 197 ∷ 202 ∷ 203 ∷ 200 ∷ 201 ∷ 206 ∷ 207 ∷ 204 ∷ 205 ∷ 210 ∷ 211 ∷ 208 ∷ 209 ∷ 214 ∷ 215 ∷ 212 ∷ 213 ∷ 218 ∷ 219 ∷ 216 ∷ 217 ∷ 222 ∷ 223 ∷ 220 ∷ 221 ∷ 34 ∷ 35 ∷ 32 ∷ 33 ∷ 38 ∷ 39 ∷ 36 ∷ 37 ∷ 42 ∷ 43 ∷ 40 ∷ 41 ∷ 46 ∷ 47 ∷ 44 ∷ 45 ∷ 50 ∷ 51 ∷ 48 ∷ 49 ∷ 54 ∷ 55 ∷ 52 ∷ 53 ∷ 58 ∷ 59 ∷ [])) (short_tag 74)) ∷ []) (Say.Drained 4)
    ∷ answered (Do.Post 0 0 (filled_line 46)) Say.Ok
    ∷ answered_with (Do.Drain 0) ((Seal 0 (ctr 0 91) (line_of (117 ∷ 114 ∷ 115 ∷ 112 ∷ 113 ∷ 78 ∷ 79 ∷ 76 ∷ 77 ∷ 74 ∷ 75 ∷ 72 ∷ 73 ∷ 70 ∷ 71 ∷ 68 ∷ 69 ∷ 66 ∷ 67 ∷ 64 ∷ 65 ∷ 94 ∷ 95 ∷ 92 ∷ 93 ∷ 90 ∷ 91 ∷ 88 ∷ 89 ∷ 86 ∷ 87 ∷ 84 ∷ 85 ∷ 82 ∷ 83 ∷ 80 ∷ 81 ∷ 174 ∷ 175 ∷ 172 ∷ 173 ∷ 170 ∷ 171 ∷ 168 ∷ 169 ∷ 166 ∷ 167 ∷ 164 ∷ 165 ∷ 162 ∷ 163 ∷ 160 ∷ 161 ∷ 190 ∷ 191 ∷ 188 ∷ 189 ∷ 186 ∷ 187 ∷ 184 ∷ 185 ∷ 182 ∷ 183 ∷ 180 ∷ [])) (short_tag 139)) ∷ []) (Say.Drained 4)
    ∷ answered (Do.Post 0 0 (filled_line 181)) Say.Ok
    ∷ answered_with (Do.Drain 0) ((Seal 0 (ctr 0 92) (line_of (233 ∷ 232 ∷ 235 ∷ 234 ∷ 213 ∷ 212 ∷ 215 ∷ 214 ∷ 209 ∷ 208 ∷ 211 ∷ 210 ∷ 221 ∷ 220 ∷ 223 ∷ 222 ∷ 217 ∷ 216 ∷ 219 ∷ 218 ∷ 197 ∷ 196 ∷ 199 ∷ 198 ∷ 193 ∷ 192 ∷ 195 ∷ 194 ∷ 205 ∷ 204 ∷ 207 ∷ 206 ∷ 201 ∷ 200 ∷ 203 ∷ 202 ∷ 53 ∷ 52 ∷ 55 ∷ 54 ∷ 49 ∷ 48 ∷ 51 ∷ 50 ∷ 61 ∷ 60 ∷ 63 ∷ 62 ∷ 57 ∷ 56 ∷ 59 ∷ 58 ∷ 37 ∷ 36 ∷ 39 ∷ 38 ∷ 33 ∷ 32 ∷ 35 ∷ 34 ∷ 45 ∷ 44 ∷ 47 ∷ 46 ∷ [])) (short_tag 76)) ∷ []) (Say.Drained 5)
    ∷ answered (Do.Post 0 0 (filled_line 177)) Say.Ok
    ∷ answered_with (Do.Drain 0) ((Seal 0 (ctr 0 93) (line_of (236 ∷ 239 ∷ 238 ∷ 209 ∷ 208 ∷ 211 ∷ 210 ∷ 213 ∷ 212 ∷ 215 ∷ 214 ∷ 217 ∷ 216 ∷ 219 ∷ 218 ∷ 221 ∷ 220 ∷ 223 ∷ 222 ∷ 193 ∷ 192 ∷ 195 ∷ 194 ∷ 197 ∷ 196 ∷ 199 ∷ 198 ∷ 201 ∷ 200 ∷ 203 ∷ 202 ∷ 205 ∷ 204 ∷ 207 ∷ 206 ∷ 49 ∷ 48 ∷ 51 ∷ 50 ∷ 53 ∷ 52 ∷ 55 ∷ 54 ∷ 57 ∷ 56 ∷ 59 ∷ 58 ∷ 61 ∷ 60 ∷ 63 ∷ 62 ∷ 33 ∷ 32 ∷ 35 ∷ 34 ∷ 37 ∷ 36 ∷ 39 ∷ 38 ∷ 41 ∷ 40 ∷ 43 ∷ 42 ∷ 45 ∷ [])) (short_tag 141)) ∷ []) (Say.Drained 4)
    ∷ answered (Do.Post 0 0 (filled_line 140)) Say.Ok
    ∷ answered_with (Do.Drain 0) ((Seal 0 (ctr 0 94) (line_of (210 ∷ 211 ∷ range_with_len 236 4 ++ range_with_len 232 4 ++ range_with_len 228 4 ++ range_with_len 224 4 ++ range_with_len 252 4 ++ range_with_len 248 4 ++ range_with_len 244 4 ++ range_with_len 240 4 ++ range_with_len 12 4 ++ range_with_len 8 4 ++ range_with_len 4 4 ++ range_with_len 0 4 ++ range_with_len 28 4 ++ range_with_len 24 4 ++ range_with_len 20 4 ++ 16 ∷ 17 ∷ [])) (short_tag 78)) ∷ []) (Say.Drained 4)
    ∷ answered (Do.Post 0 0 (filled_line 225)) Say.Ok
    ∷ answered_with (Do.Drain 0) ((Seal 0 (ctr 0 95) (line_of (190 ∷ 129 ∷ 128 ∷ 131 ∷ 130 ∷ 133 ∷ 132 ∷ 135 ∷ 134 ∷ 137 ∷ 136 ∷ 139 ∷ 138 ∷ 141 ∷ 140 ∷ 143 ∷ 142 ∷ 145 ∷ 144 ∷ 147 ∷ 146 ∷ 149 ∷ 148 ∷ 151 ∷ 150 ∷ 153 ∷ 152 ∷ 155 ∷ 154 ∷ 157 ∷ 156 ∷ 159 ∷ 158 ∷ 97 ∷ 96 ∷ 99 ∷ 98 ∷ 101 ∷ 100 ∷ 103 ∷ 102 ∷ 105 ∷ 104 ∷ 107 ∷ 106 ∷ 109 ∷ 108 ∷ 111 ∷ 110 ∷ 113 ∷ 112 ∷ 115 ∷ 114 ∷ 117 ∷ 116 ∷ 119 ∷ 118 ∷ 121 ∷ 120 ∷ 123 ∷ 122 ∷ 125 ∷ 124 ∷ 127 ∷ [])) (short_tag 143)) ∷ []) (Say.Drained 4)
    ∷ answered (Do.Post 0 0 (filled_line 196)) Say.Ok
    ∷ answered_with (Do.Drain 0) ((Seal 0 (ctr 0 96) (line_of (range_with_len 164 4 ++ range_with_len 160 4 ++ range_with_len 172 4 ++ range_with_len 168 4 ++ range_with_len 180 4 ++ range_with_len 176 4 ++ range_with_len 188 4 ++ range_with_len 184 4 ++ range_with_len 68 4 ++ range_with_len 64 4 ++ range_with_len 76 4 ++ range_with_len 72 4 ++ range_with_len 84 4 ++ range_with_len 80 4 ++ range_with_len 92 4 ++ range_with_len 88 4)) (short_tag 112)) ∷ []) (Say.Drained 5)
    ∷ answered (Do.Post 0 0 (filled_line 66)) Say.Ok
    ∷ answered_with (Do.Drain 0) ((Seal 0 (ctr 0 97) (line_of (35 ∷ 32 ∷ 33 ∷ 38 ∷ 39 ∷ 36 ∷ 37 ∷ 42 ∷ 43 ∷ 40 ∷ 41 ∷ 46 ∷ 47 ∷ 44 ∷ 45 ∷ 50 ∷ 51 ∷ 48 ∷ 49 ∷ 54 ∷ 55 ∷ 52 ∷ 53 ∷ 58 ∷ 59 ∷ 56 ∷ 57 ∷ 62 ∷ 63 ∷ 60 ∷ 61 ∷ 194 ∷ 195 ∷ 192 ∷ 193 ∷ 198 ∷ 199 ∷ 196 ∷ 197 ∷ 202 ∷ 203 ∷ 200 ∷ 201 ∷ 206 ∷ 207 ∷ 204 ∷ 205 ∷ 210 ∷ 211 ∷ 208 ∷ 209 ∷ 214 ∷ 215 ∷ 212 ∷ 213 ∷ 218 ∷ 219 ∷ 216 ∷ 217 ∷ 222 ∷ 223 ∷ 220 ∷ 221 ∷ 226 ∷ [])) (short_tag 177)) ∷ []) (Say.Drained 4)
    ∷ answered (Do.Post 0 0 (filled_line 23)) Say.Ok
    ∷ answered_with (Do.Drain 0) ((Seal 0 (ctr 0 98) (line_of (117 ∷ 116 ∷ 115 ∷ 114 ∷ 113 ∷ 112 ∷ 127 ∷ 126 ∷ 125 ∷ 124 ∷ 123 ∷ 122 ∷ 121 ∷ 120 ∷ 103 ∷ 102 ∷ 101 ∷ 100 ∷ 99 ∷ 98 ∷ 97 ∷ 96 ∷ 111 ∷ 110 ∷ 109 ∷ 108 ∷ 107 ∷ 106 ∷ 105 ∷ 104 ∷ 151 ∷ 150 ∷ 149 ∷ 148 ∷ 147 ∷ 146 ∷ 145 ∷ 144 ∷ 159 ∷ 158 ∷ 157 ∷ 156 ∷ 155 ∷ 154 ∷ 153 ∷ 152 ∷ 135 ∷ 134 ∷ 133 ∷ 132 ∷ 131 ∷ 130 ∷ 129 ∷ 128 ∷ 143 ∷ 142 ∷ 141 ∷ 140 ∷ 139 ∷ 138 ∷ 137 ∷ 136 ∷ 183 ∷ 182 ∷ [])) (short_tag 114)) ∷ []) (Say.Drained 4)
    ∷ answered (Do.Post 0 0 (filled_line 254)) Say.Ok
    ∷ answered_with (Do.Drain 0) ((Seal 0 (ctr 0 99) (line_of (157 ∷ 154 ∷ 155 ∷ 152 ∷ 153 ∷ 150 ∷ 151 ∷ 148 ∷ 149 ∷ 146 ∷ 147 ∷ 144 ∷ 145 ∷ 142 ∷ 143 ∷ 140 ∷ 141 ∷ 138 ∷ 139 ∷ 136 ∷ 137 ∷ 134 ∷ 135 ∷ 132 ∷ 133 ∷ 130 ∷ 131 ∷ 128 ∷ 129 ∷ 126 ∷ 127 ∷ 124 ∷ 125 ∷ 122 ∷ 123 ∷ 120 ∷ 121 ∷ 118 ∷ 119 ∷ 116 ∷ 117 ∷ 114 ∷ 115 ∷ 112 ∷ 113 ∷ 110 ∷ 111 ∷ 108 ∷ 109 ∷ 106 ∷ 107 ∷ 104 ∷ 105 ∷ 102 ∷ 103 ∷ 100 ∷ 101 ∷ 98 ∷ 99 ∷ 96 ∷ 97 ∷ 94 ∷ 95 ∷ 92 ∷ [])) (short_tag 179)) ∷ []) (Say.Drained 4)
    ∷ answered (Do.Post 0 0 (filled_line 22)) Say.Ok
    ∷ answered_with (Do.Drain 0) ((Seal 0 (ctr 0 100) (line_of (114 ∷ 115 ∷ 112 ∷ 113 ∷ 126 ∷ 127 ∷ 124 ∷ 125 ∷ 122 ∷ 123 ∷ 120 ∷ 121 ∷ 102 ∷ 103 ∷ 100 ∷ 101 ∷ 98 ∷ 99 ∷ 96 ∷ 97 ∷ 110 ∷ 111 ∷ 108 ∷ 109 ∷ 106 ∷ 107 ∷ 104 ∷ 105 ∷ 150 ∷ 151 ∷ 148 ∷ 149 ∷ 146 ∷ 147 ∷ 144 ∷ 145 ∷ 158 ∷ 159 ∷ 156 ∷ 157 ∷ 154 ∷ 155 ∷ 152 ∷ 153 ∷ 134 ∷ 135 ∷ 132 ∷ 133 ∷ 130 ∷ 131 ∷ 128 ∷ 129 ∷ 142 ∷ 143 ∷ 140 ∷ 141 ∷ 138 ∷ 139 ∷ 136 ∷ 137 ∷ 182 ∷ 183 ∷ 180 ∷ 181 ∷ [])) (short_tag 116)) ∷ []) (Say.Drained 5)
    ∷ answered (Do.Post 0 0 (filled_line 8)) Say.Ok
    ∷ answered_with (Do.Drain 0) ((Seal 0 (ctr 0 101) (line_of (109 ∷ 110 ∷ 111 ∷ range_with_len 96 8 ++ range_with_len 120 8 ++ range_with_len 112 8 ++ range_with_len 136 8 ++ range_with_len 128 8 ++ range_with_len 152 8 ++ range_with_len 144 8 ++ range_with_len 168 5)) (short_tag 181)) ∷ []) (Say.Drained 4)
    ∷ answered (Do.Post 0 0 (filled_line 83)) Say.Ok
    ∷ answered_with (Do.Drain 0) ((Seal 0 (ctr 0 102) (line_of (53 ∷ 52 ∷ 59 ∷ 58 ∷ 57 ∷ 56 ∷ 63 ∷ 62 ∷ 61 ∷ 60 ∷ 35 ∷ 34 ∷ 33 ∷ 32 ∷ 39 ∷ 38 ∷ 37 ∷ 36 ∷ 43 ∷ 42 ∷ 41 ∷ 40 ∷ 47 ∷ 46 ∷ 45 ∷ 44 ∷ 211 ∷ 210 ∷ 209 ∷ 208 ∷ 215 ∷ 214 ∷ 213 ∷ 212 ∷ 219 ∷ 218 ∷ 217 ∷ 216 ∷ 223 ∷ 222 ∷ 221 ∷ 220 ∷ 195 ∷ 194 ∷ 193 ∷ 192 ∷ 199 ∷ 198 ∷ 197 ∷ 196 ∷ 203 ∷ 202 ∷ 201 ∷ 200 ∷ 207 ∷ 206 ∷ 205 ∷ 204 ∷ 243 ∷ 242 ∷ 241 ∷ 240 ∷ 247 ∷ 246 ∷ [])) (short_tag 118)) ∷ []) (Say.Drained 4)
    ∷ answered (Do.Post 0 0 (filled_line 0)) Say.Ok
    ∷ answered_with (Do.Drain 0) ((Seal 0 (ctr 0 103) (line_of (range_with_len 103 64)) (short_tag 183)) ∷ []) (Say.Drained 4)
    ∷ answered (Do.Post 0 0 (filled_line 108)) Say.Ok
    ∷ answered_with (Do.Drain 0) ((Seal 0 (ctr 0 104) (line_of (range_with_len 4 4 ++ range_with_len 0 4 ++ range_with_len 28 4 ++ range_with_len 24 4 ++ range_with_len 20 4 ++ range_with_len 16 4 ++ range_with_len 236 4 ++ range_with_len 232 4 ++ range_with_len 228 4 ++ range_with_len 224 4 ++ range_with_len 252 4 ++ range_with_len 248 4 ++ range_with_len 244 4 ++ range_with_len 240 4 ++ range_with_len 204 4 ++ range_with_len 200 4)) (short_tag 120)) ∷ []) (Say.Drained 5)
    ∷ answered (Do.Post 0 0 (filled_line 145)) Say.Ok
    ∷ answered_with (Do.Drain 0) ((Seal 0 (ctr 0 105) (line_of (248 ∷ 251 ∷ 250 ∷ 253 ∷ 252 ∷ 255 ∷ 254 ∷ 225 ∷ 224 ∷ 227 ∷ 226 ∷ 229 ∷ 228 ∷ 231 ∷ 230 ∷ 233 ∷ 232 ∷ 235 ∷ 234 ∷ 237 ∷ 236 ∷ 239 ∷ 238 ∷ 17 ∷ 16 ∷ 19 ∷ 18 ∷ 21 ∷ 20 ∷ 23 ∷ 22 ∷ 25 ∷ 24 ∷ 27 ∷ 26 ∷ 29 ∷ 28 ∷ 31 ∷ 30 ∷ 1 ∷ 0 ∷ 3 ∷ 2 ∷ 5 ∷ 4 ∷ 7 ∷ 6 ∷ 9 ∷ 8 ∷ 11 ∷ 10 ∷ 13 ∷ 12 ∷ 15 ∷ 14 ∷ 49 ∷ 48 ∷ 51 ∷ 50 ∷ 53 ∷ 52 ∷ 55 ∷ 54 ∷ 57 ∷ [])) (short_tag 185)) ∷ []) (Say.Drained 4)
    ∷ answered (Do.Post 0 0 (filled_line 164)) Say.Ok
    ∷ answered_with (Do.Drain 0) ((Seal 0 (ctr 0 106) (line_of (206 ∷ 207 ∷ range_with_len 200 4 ++ range_with_len 212 4 ++ range_with_len 208 4 ++ range_with_len 220 4 ++ range_with_len 216 4 ++ range_with_len 36 4 ++ range_with_len 32 4 ++ range_with_len 44 4 ++ range_with_len 40 4 ++ range_with_len 52 4 ++ range_with_len 48 4 ++ range_with_len 60 4 ++ range_with_len 56 4 ++ range_with_len 4 4 ++ range_with_len 0 4 ++ 12 ∷ 13 ∷ [])) (short_tag 122)) ∷ []) (Say.Drained 4)
    ∷ answered (Do.Post 0 0 (filled_line 142)) Say.Ok
    ∷ answered_with (Do.Drain 0) ((Seal 0 (ctr 0 107) (line_of (229 ∷ 226 ∷ 227 ∷ 224 ∷ 225 ∷ 254 ∷ 255 ∷ 252 ∷ 253 ∷ 250 ∷ 251 ∷ 248 ∷ 249 ∷ 246 ∷ 247 ∷ 244 ∷ 245 ∷ 242 ∷ 243 ∷ 240 ∷ 241 ∷ 14 ∷ 15 ∷ 12 ∷ 13 ∷ 10 ∷ 11 ∷ 8 ∷ 9 ∷ 6 ∷ 7 ∷ 4 ∷ 5 ∷ 2 ∷ 3 ∷ 0 ∷ 1 ∷ 30 ∷ 31 ∷ 28 ∷ 29 ∷ 26 ∷ 27 ∷ 24 ∷ 25 ∷ 22 ∷ 23 ∷ 20 ∷ 21 ∷ 18 ∷ 19 ∷ 16 ∷ 17 ∷ 46 ∷ 47 ∷ 44 ∷ 45 ∷ 42 ∷ 43 ∷ 40 ∷ 41 ∷ 38 ∷ 39 ∷ 36 ∷ [])) (short_tag 187)) ∷ []) (Say.Drained 4)
    ∷ answered (Do.Post 0 0 (filled_line 204)) Say.Ok
    ∷ answered_with (Do.Drain 0) ((Seal 0 (ctr 0 108) (line_of (range_with_len 160 4 ++ range_with_len 188 4 ++ range_with_len 184 4 ++ range_with_len 180 4 ++ range_with_len 176 4 ++ range_with_len 76 4 ++ range_with_len 72 4 ++ range_with_len 68 4 ++ range_with_len 64 4 ++ range_with_len 92 4 ++ range_with_len 88 4 ++ range_with_len 84 4 ++ range_with_len 80 4 ++ range_with_len 108 4 ++ range_with_len 104 4 ++ range_with_len 100 4)) (short_tag 124)) ∷ []) (Say.Drained 5)
    ∷ answered (Do.Post 0 0 (filled_line 114)) Say.Ok
    ∷ answered_with (Do.Drain 0) ((Seal 0 (ctr 0 109) (line_of (31 ∷ 28 ∷ 29 ∷ 2 ∷ 3 ∷ 0 ∷ 1 ∷ 6 ∷ 7 ∷ 4 ∷ 5 ∷ 10 ∷ 11 ∷ 8 ∷ 9 ∷ 14 ∷ 15 ∷ 12 ∷ 13 ∷ 242 ∷ 243 ∷ 240 ∷ 241 ∷ 246 ∷ 247 ∷ 244 ∷ 245 ∷ 250 ∷ 251 ∷ 248 ∷ 249 ∷ 254 ∷ 255 ∷ 252 ∷ 253 ∷ 226 ∷ 227 ∷ 224 ∷ 225 ∷ 230 ∷ 231 ∷ 228 ∷ 229 ∷ 234 ∷ 235 ∷ 232 ∷ 233 ∷ 238 ∷ 239 ∷ 236 ∷ 237 ∷ 210 ∷ 211 ∷ 208 ∷ 209 ∷ 214 ∷ 215 ∷ 212 ∷ 213 ∷ 218 ∷ 219 ∷ 216 ∷ 217 ∷ 222 ∷ [])) (short_tag 189)) ∷ []) (Say.Drained 4)
    ∷ answered (Do.Post 0 0 (filled_line 128)) Say.Ok
    ∷ answered_with (Do.Drain 0) ((Seal 0 (ctr 0 110) (line_of (range_with_len 238 18 ++ range_with_len 0 46)) (short_tag 126)) ∷ []) (Say.Drained 4)
    ∷ answered (Do.Post 0 0 (filled_line 169)) Say.Ok
    ∷ answered_with (Do.Drain 0) ((Seal 0 (ctr 0 111) (line_of (198 ∷ 217 ∷ 216 ∷ 219 ∷ 218 ∷ 221 ∷ 220 ∷ 223 ∷ 222 ∷ 209 ∷ 208 ∷ 211 ∷ 210 ∷ 213 ∷ 212 ∷ 215 ∷ 214 ∷ 41 ∷ 40 ∷ 43 ∷ 42 ∷ 45 ∷ 44 ∷ 47 ∷ 46 ∷ 33 ∷ 32 ∷ 35 ∷ 34 ∷ 37 ∷ 36 ∷ 39 ∷ 38 ∷ 57 ∷ 56 ∷ 59 ∷ 58 ∷ 61 ∷ 60 ∷ 63 ∷ 62 ∷ 49 ∷ 48 ∷ 51 ∷ 50 ∷ 53 ∷ 52 ∷ 55 ∷ 54 ∷ 9 ∷ 8 ∷ 11 ∷ 10 ∷ 13 ∷ 12 ∷ 15 ∷ 14 ∷ 1 ∷ 0 ∷ 3 ∷ 2 ∷ 5 ∷ 4 ∷ 7 ∷ [])) (short_tag 191)) ∷ []) (Say.Drained 4)
    ∷ answered (Do.Post 0 0 (filled_line 49)) Say.Ok
    ∷ answered_with (Do.Drain 0) ((Seal 0 (ctr 0 112) (line_of (65 ∷ 64 ∷ 67 ∷ 66 ∷ 69 ∷ 68 ∷ 71 ∷ 70 ∷ 73 ∷ 72 ∷ 75 ∷ 74 ∷ 77 ∷ 76 ∷ 79 ∷ 78 ∷ 177 ∷ 176 ∷ 179 ∷ 178 ∷ 181 ∷ 180 ∷ 183 ∷ 182 ∷ 185 ∷ 184 ∷ 187 ∷ 186 ∷ 189 ∷ 188 ∷ 191 ∷ 190 ∷ 161 ∷ 160 ∷ 163 ∷ 162 ∷ 165 ∷ 164 ∷ 167 ∷ 166 ∷ 169 ∷ 168 ∷ 171 ∷ 170 ∷ 173 ∷ 172 ∷ 175 ∷ 174 ∷ 145 ∷ 144 ∷ 147 ∷ 146 ∷ 149 ∷ 148 ∷ 151 ∷ 150 ∷ 153 ∷ 152 ∷ 155 ∷ 154 ∷ 157 ∷ 156 ∷ 159 ∷ 158 ∷ [])) (short_tag 96)) ∷ []) (Say.Drained 5)
    ∷ answered (Do.Post 0 0 (filled_line 124)) Say.Ok
    ∷ answered_with (Do.Drain 0) ((Seal 0 (ctr 0 113) (line_of (13 ∷ 14 ∷ 15 ∷ range_with_len 8 4 ++ range_with_len 4 4 ++ range_with_len 0 4 ++ range_with_len 252 4 ++ range_with_len 248 4 ++ range_with_len 244 4 ++ range_with_len 240 4 ++ range_with_len 236 4 ++ range_with_len 232 4 ++ range_with_len 228 4 ++ range_with_len 224 4 ++ range_with_len 220 4 ++ range_with_len 216 4 ++ range_with_len 212 4 ++ range_with_len 208 4 ++ 204 ∷ [])) (short_tag 161)) ∷ []) (Say.Drained 4)
    ∷ answered (Do.Post 0 0 (filled_line 47)) Say.Ok
    ∷ answered_with (Do.Drain 0) ((Seal 0 (ctr 0 114) (line_of (93 ∷ 92 ∷ 91 ∷ 90 ∷ 89 ∷ 88 ∷ 87 ∷ 86 ∷ 85 ∷ 84 ∷ 83 ∷ 82 ∷ 81 ∷ 80 ∷ 175 ∷ 174 ∷ 173 ∷ 172 ∷ 171 ∷ 170 ∷ 169 ∷ 168 ∷ 167 ∷ 166 ∷ 165 ∷ 164 ∷ 163 ∷ 162 ∷ 161 ∷ 160 ∷ 191 ∷ 190 ∷ 189 ∷ 188 ∷ 187 ∷ 186 ∷ 185 ∷ 184 ∷ 183 ∷ 182 ∷ 181 ∷ 180 ∷ 179 ∷ 178 ∷ 177 ∷ 176 ∷ 143 ∷ 142 ∷ 141 ∷ 140 ∷ 139 ∷ 138 ∷ 137 ∷ 136 ∷ 135 ∷ 134 ∷ 133 ∷ 132 ∷ 131 ∷ 130 ∷ 129 ∷ 128 ∷ 159 ∷ 158 ∷ [])) (short_tag 98)) ∷ []) (Say.Drained 4)
    ∷ answered (Do.Post 0 0 (filled_line 160)) Say.Ok
    ∷ answered_with (Do.Drain 0) ((Seal 0 (ctr 0 115) (line_of (range_with_len 211 13 ++ range_with_len 32 32 ++ range_with_len 0 19)) (short_tag 163)) ∷ []) (Say.Drained 4)
    ∷ answered (Do.Post 0 0 (filled_line 149)) Say.Ok
    ∷ answered_with (Do.Drain 0) ((Seal 0 (ctr 0 116) (line_of (225 ∷ 224 ∷ 227 ∷ 226 ∷ 237 ∷ 236 ∷ 239 ∷ 238 ∷ 233 ∷ 232 ∷ 235 ∷ 234 ∷ 21 ∷ 20 ∷ 23 ∷ 22 ∷ 17 ∷ 16 ∷ 19 ∷ 18 ∷ 29 ∷ 28 ∷ 31 ∷ 30 ∷ 25 ∷ 24 ∷ 27 ∷ 26 ∷ 5 ∷ 4 ∷ 7 ∷ 6 ∷ 1 ∷ 0 ∷ 3 ∷ 2 ∷ 13 ∷ 12 ∷ 15 ∷ 14 ∷ 9 ∷ 8 ∷ 11 ∷ 10 ∷ 53 ∷ 52 ∷ 55 ∷ 54 ∷ 49 ∷ 48 ∷ 51 ∷ 50 ∷ 61 ∷ 60 ∷ 63 ∷ 62 ∷ 57 ∷ 56 ∷ 59 ∷ 58 ∷ 37 ∷ 36 ∷ 39 ∷ 38 ∷ [])) (short_tag 100)) ∷ []) (Say.Drained 5)
    ∷ answered (Do.Post 0 0 (filled_line 75)) Say.Ok
    ∷ answered_with (Do.Drain 0) ((Seal 0 (ctr 0 117) (line_of (62 ∷ 61 ∷ 60 ∷ 51 ∷ 50 ∷ 49 ∷ 48 ∷ 55 ∷ 54 ∷ 53 ∷ 52 ∷ 203 ∷ 202 ∷ 201 ∷ 200 ∷ 207 ∷ 206 ∷ 205 ∷ 204 ∷ 195 ∷ 194 ∷ 193 ∷ 192 ∷ 199 ∷ 198 ∷ 197 ∷ 196 ∷ 219 ∷ 218 ∷ 217 ∷ 216 ∷ 223 ∷ 222 ∷ 221 ∷ 220 ∷ 211 ∷ 210 ∷ 209 ∷ 208 ∷ 215 ∷ 214 ∷ 213 ∷ 212 ∷ 235 ∷ 234 ∷ 233 ∷ 232 ∷ 239 ∷ 238 ∷ 237 ∷ 236 ∷ 227 ∷ 226 ∷ 225 ∷ 224 ∷ 231 ∷ 230 ∷ 229 ∷ 228 ∷ 251 ∷ 250 ∷ 249 ∷ 248 ∷ 255 ∷ [])) (short_tag 165)) ∷ []) (Say.Drained 4)
    ∷ answered (Do.Post 0 0 (filled_line 115)) Say.Ok
    ∷ answered_with (Do.Drain 0) ((Seal 0 (ctr 0 118) (line_of (5 ∷ 4 ∷ 11 ∷ 10 ∷ 9 ∷ 8 ∷ 15 ∷ 14 ∷ 13 ∷ 12 ∷ 243 ∷ 242 ∷ 241 ∷ 240 ∷ 247 ∷ 246 ∷ 245 ∷ 244 ∷ 251 ∷ 250 ∷ 249 ∷ 248 ∷ 255 ∷ 254 ∷ 253 ∷ 252 ∷ 227 ∷ 226 ∷ 225 ∷ 224 ∷ 231 ∷ 230 ∷ 229 ∷ 228 ∷ 235 ∷ 234 ∷ 233 ∷ 232 ∷ 239 ∷ 238 ∷ 237 ∷ 236 ∷ 211 ∷ 210 ∷ 209 ∷ 208 ∷ 215 ∷ 214 ∷ 213 ∷ 212 ∷ 219 ∷ 218 ∷ 217 ∷ 216 ∷ 223 ∷ 222 ∷ 221 ∷ 220 ∷ 195 ∷ 194 ∷ 193 ∷ 192 ∷ 199 ∷ 198 ∷ [])) (short_tag 102)) ∷ []) (Say.Drained 4)
    ∷ answered (Do.Post 0 0 (filled_line 187)) Say.Ok
    ∷ answered_with (Do.Drain 0) ((Seal 0 (ctr 0 119) (line_of (204 ∷ 195 ∷ 194 ∷ 193 ∷ 192 ∷ 199 ∷ 198 ∷ 197 ∷ 196 ∷ 59 ∷ 58 ∷ 57 ∷ 56 ∷ 63 ∷ 62 ∷ 61 ∷ 60 ∷ 51 ∷ 50 ∷ 49 ∷ 48 ∷ 55 ∷ 54 ∷ 53 ∷ 52 ∷ 43 ∷ 42 ∷ 41 ∷ 40 ∷ 47 ∷ 46 ∷ 45 ∷ 44 ∷ 35 ∷ 34 ∷ 33 ∷ 32 ∷ 39 ∷ 38 ∷ 37 ∷ 36 ∷ 27 ∷ 26 ∷ 25 ∷ 24 ∷ 31 ∷ 30 ∷ 29 ∷ 28 ∷ 19 ∷ 18 ∷ 17 ∷ 16 ∷ 23 ∷ 22 ∷ 21 ∷ 20 ∷ 11 ∷ 10 ∷ 9 ∷ 8 ∷ 15 ∷ 14 ∷ 13 ∷ [])) (short_tag 167)) ∷ []) (Say.Drained 4)
    ∷ answered (Do.Post 0 0 (filled_line 132)) Say.Ok
    ∷ answered_with (Do.Drain 0) ((Seal 0 (ctr 0 120) (line_of (range_with_len 252 4 ++ range_with_len 248 4 ++ range_with_len 4 4 ++ range_with_len 0 4 ++ range_with_len 12 4 ++ range_with_len 8 4 ++ range_with_len 20 4 ++ range_with_len 16 4 ++ range_with_len 28 4 ++ range_with_len 24 4 ++ range_with_len 36 4 ++ range_with_len 32 4 ++ range_with_len 44 4 ++ range_with_len 40 4 ++ range_with_len 52 4 ++ range_with_len 48 4)) (short_tag 104)) ∷ []) (Say.Drained 5)
    ∷ answered (Do.Post 0 0 (filled_line 39)) Say.Ok
    ∷ answered_with (Do.Drain 0) ((Seal 0 (ctr 0 121) (line_of (94 ∷ 93 ∷ 92 ∷ 91 ∷ 90 ∷ 89 ∷ 88 ∷ 167 ∷ 166 ∷ 165 ∷ 164 ∷ 163 ∷ 162 ∷ 161 ∷ 160 ∷ 175 ∷ 174 ∷ 173 ∷ 172 ∷ 171 ∷ 170 ∷ 169 ∷ 168 ∷ 183 ∷ 182 ∷ 181 ∷ 180 ∷ 179 ∷ 178 ∷ 177 ∷ 176 ∷ 191 ∷ 190 ∷ 189 ∷ 188 ∷ 187 ∷ 186 ∷ 185 ∷ 184 ∷ 135 ∷ 134 ∷ 133 ∷ 132 ∷ 131 ∷ 130 ∷ 129 ∷ 128 ∷ 143 ∷ 142 ∷ 141 ∷ 140 ∷ 139 ∷ 138 ∷ 137 ∷ 136 ∷ 151 ∷ 150 ∷ 149 ∷ 148 ∷ 147 ∷ 146 ∷ 145 ∷ 144 ∷ 159 ∷ [])) (short_tag 169)) ∷ []) (Say.Drained 4)
    ∷ answered (Do.Post 0 0 (filled_line 234)) Say.Ok
    ∷ answered_with (Do.Drain 0) ((Seal 0 (ctr 0 122) (line_of (144 ∷ 145 ∷ 150 ∷ 151 ∷ 148 ∷ 149 ∷ 106 ∷ 107 ∷ 104 ∷ 105 ∷ 110 ∷ 111 ∷ 108 ∷ 109 ∷ 98 ∷ 99 ∷ 96 ∷ 97 ∷ 102 ∷ 103 ∷ 100 ∷ 101 ∷ 122 ∷ 123 ∷ 120 ∷ 121 ∷ 126 ∷ 127 ∷ 124 ∷ 125 ∷ 114 ∷ 115 ∷ 112 ∷ 113 ∷ 118 ∷ 119 ∷ 116 ∷ 117 ∷ 74 ∷ 75 ∷ 72 ∷ 73 ∷ 78 ∷ 79 ∷ 76 ∷ 77 ∷ 66 ∷ 67 ∷ 64 ∷ 65 ∷ 70 ∷ 71 ∷ 68 ∷ 69 ∷ 90 ∷ 91 ∷ 88 ∷ 89 ∷ 94 ∷ 95 ∷ 92 ∷ 93 ∷ 82 ∷ 83 ∷ [])) (short_tag 106)) ∷ []) (Say.Drained 4)
    ∷ answered (Do.Post 0 0 (filled_line 109)) Say.Ok
    ∷ answered_with (Do.Drain 0) ((Seal 0 (ctr 0 123) (line_of (22 ∷ 17 ∷ 16 ∷ 19 ∷ 18 ∷ 237 ∷ 236 ∷ 239 ∷ 238 ∷ 233 ∷ 232 ∷ 235 ∷ 234 ∷ 229 ∷ 228 ∷ 231 ∷ 230 ∷ 225 ∷ 224 ∷ 227 ∷ 226 ∷ 253 ∷ 252 ∷ 255 ∷ 254 ∷ 249 ∷ 248 ∷ 251 ∷ 250 ∷ 245 ∷ 244 ∷ 247 ∷ 246 ∷ 241 ∷ 240 ∷ 243 ∷ 242 ∷ 205 ∷ 204 ∷ 207 ∷ 206 ∷ 201 ∷ 200 ∷ 203 ∷ 202 ∷ 197 ∷ 196 ∷ 199 ∷ 198 ∷ 193 ∷ 192 ∷ 195 ∷ 194 ∷ 221 ∷ 220 ∷ 223 ∷ 222 ∷ 217 ∷ 216 ∷ 219 ∷ 218 ∷ 213 ∷ 212 ∷ 215 ∷ [])) (short_tag 171)) ∷ []) (Say.Drained 4)
    ∷ answered (Do.Post 0 0 (filled_line 161)) Say.Ok
    ∷ answered_with (Do.Drain 0) ((Seal 0 (ctr 0 124) (line_of (221 ∷ 220 ∷ 223 ∷ 222 ∷ 33 ∷ 32 ∷ 35 ∷ 34 ∷ 37 ∷ 36 ∷ 39 ∷ 38 ∷ 41 ∷ 40 ∷ 43 ∷ 42 ∷ 45 ∷ 44 ∷ 47 ∷ 46 ∷ 49 ∷ 48 ∷ 51 ∷ 50 ∷ 53 ∷ 52 ∷ 55 ∷ 54 ∷ 57 ∷ 56 ∷ 59 ∷ 58 ∷ 61 ∷ 60 ∷ 63 ∷ 62 ∷ 1 ∷ 0 ∷ 3 ∷ 2 ∷ 5 ∷ 4 ∷ 7 ∷ 6 ∷ 9 ∷ 8 ∷ 11 ∷ 10 ∷ 13 ∷ 12 ∷ 15 ∷ 14 ∷ 17 ∷ 16 ∷ 19 ∷ 18 ∷ 21 ∷ 20 ∷ 23 ∷ 22 ∷ 25 ∷ 24 ∷ 27 ∷ 26 ∷ [])) (short_tag 108)) ∷ []) (Say.Drained 5)
    ∷ answered (Do.Post 0 0 (filled_line 28)) Say.Ok
    ∷ answered_with (Do.Drain 0) ((Seal 0 (ctr 0 125) (line_of (97 ∷ 98 ∷ 99 ∷ range_with_len 156 4 ++ range_with_len 152 4 ++ range_with_len 148 4 ++ range_with_len 144 4 ++ range_with_len 140 4 ++ range_with_len 136 4 ++ range_with_len 132 4 ++ range_with_len 128 4 ++ range_with_len 188 4 ++ range_with_len 184 4 ++ range_with_len 180 4 ++ range_with_len 176 4 ++ range_with_len 172 4 ++ range_with_len 168 4 ++ range_with_len 164 4 ++ 160 ∷ [])) (short_tag 173)) ∷ []) (Say.Drained 4)
    ∷ answered (Do.Post 0 0 (filled_line 30)) Say.Ok
    ∷ answered_with (Do.Drain 0) ((Seal 0 (ctr 0 126) (line_of (96 ∷ 97 ∷ 158 ∷ 159 ∷ 156 ∷ 157 ∷ 154 ∷ 155 ∷ 152 ∷ 153 ∷ 150 ∷ 151 ∷ 148 ∷ 149 ∷ 146 ∷ 147 ∷ 144 ∷ 145 ∷ 142 ∷ 143 ∷ 140 ∷ 141 ∷ 138 ∷ 139 ∷ 136 ∷ 137 ∷ 134 ∷ 135 ∷ 132 ∷ 133 ∷ 130 ∷ 131 ∷ 128 ∷ 129 ∷ 190 ∷ 191 ∷ 188 ∷ 189 ∷ 186 ∷ 187 ∷ 184 ∷ 185 ∷ 182 ∷ 183 ∷ 180 ∷ 181 ∷ 178 ∷ 179 ∷ 176 ∷ 177 ∷ 174 ∷ 175 ∷ 172 ∷ 173 ∷ 170 ∷ 171 ∷ 168 ∷ 169 ∷ 166 ∷ 167 ∷ 164 ∷ 165 ∷ 162 ∷ 163 ∷ [])) (short_tag 110)) ∷ []) (Say.Drained 4)
    ∷ answered (Do.Drain 0) Say.Empty
    ∷ answered (Do.Poke 256 (filled_line 235)) Say.Ok
    ∷ answered (Do.Drain 1) Say.Empty
    ∷ answered (Do.Drain 0) Say.Empty
    ∷ answered (Do.Post 0 0 (filled_line 231)) Say.Ok
    ∷ answered Do.On Say.Already
    ∷ answered (Do.Read 1 0) (Say.Refused None (Place.Line 0) 0)
    ∷ answered (Do.Post 0 0 (filled_line 184)) Say.Ok
    ∷ answered_with (Do.Drain 0) ((Seal 0 (ctr 0 127) (line_of (152 ∷ 103 ∷ 102 ∷ 101 ∷ 100 ∷ 99 ∷ 98 ∷ 97 ∷ 96 ∷ 111 ∷ 110 ∷ 109 ∷ 108 ∷ 107 ∷ 106 ∷ 105 ∷ 104 ∷ 119 ∷ 118 ∷ 117 ∷ 116 ∷ 115 ∷ 114 ∷ 113 ∷ 112 ∷ 127 ∷ 126 ∷ 125 ∷ 124 ∷ 123 ∷ 122 ∷ 121 ∷ 120 ∷ 71 ∷ 70 ∷ 69 ∷ 68 ∷ 67 ∷ 66 ∷ 65 ∷ 64 ∷ 79 ∷ 78 ∷ 77 ∷ 76 ∷ 75 ∷ 74 ∷ 73 ∷ 72 ∷ 87 ∷ 86 ∷ 85 ∷ 84 ∷ 83 ∷ 82 ∷ 81 ∷ 80 ∷ 95 ∷ 94 ∷ 93 ∷ 92 ∷ 91 ∷ 90 ∷ 89 ∷ [])) (short_tag 175)) ∷ []) (Say.Drained 4)
    ∷ answered (Do.Read 1 2) (Say.Refused None (Place.Line 2) 0)
    ∷ answered (Do.Post 0 2 (filled_line 53)) Say.Ok
    ∷ answered (Do.Move 65 2) Say.Ok
    ∷ answered_with (Do.Drain 0) ((Begin 0) ∷ (Seal 0 (ctr 1 1) (line_of (range_with_len 186 6 ++ range_with_len 176 8 ++ range_with_len 168 8 ++ range_with_len 160 8 ++ range_with_len 152 8 ++ range_with_len 144 8 ++ range_with_len 136 8 ++ range_with_len 128 8 ++ 248 ∷ 249 ∷ [])) (short_tag 16)) ∷ []) (Say.Drained 7)
    ∷ answered (Do.Post 0 1 (filled_line 32)) Say.Ok
    ∷ answered (Do.Flip 320 352) Say.Ok
    ∷ answered (Do.Post 0 1 (filled_line 124)) Say.Ok
    ∷ answered (Do.Drain 1) Say.Empty
    ∷ answered (Do.Part 0 1 19 42 (line_of (replicate 42 107 ++ replicate 22 0))) Say.Ok
    ∷ answered_with (Do.Drain 0) ((Seal 2 (ctr 1 1) (line_of (49 ∷ 48 ∷ 51 ∷ 50 ∷ 61 ∷ 60 ∷ 63 ∷ 62 ∷ 57 ∷ 56 ∷ 59 ∷ 58 ∷ 37 ∷ 36 ∷ 39 ∷ 38 ∷ 33 ∷ 32 ∷ 35 ∷ 34 ∷ 45 ∷ 44 ∷ 47 ∷ 46 ∷ 41 ∷ 40 ∷ 43 ∷ 42 ∷ 21 ∷ 20 ∷ 23 ∷ 22 ∷ 17 ∷ 16 ∷ 19 ∷ 18 ∷ 29 ∷ 28 ∷ 31 ∷ 30 ∷ 25 ∷ 24 ∷ 27 ∷ 26 ∷ 5 ∷ 4 ∷ 7 ∷ 6 ∷ 1 ∷ 0 ∷ 3 ∷ 2 ∷ 13 ∷ 12 ∷ 15 ∷ 14 ∷ 9 ∷ 8 ∷ 11 ∷ 10 ∷ 117 ∷ 116 ∷ 119 ∷ 118 ∷ [])) (short_tag 18)) ∷ []) (Say.Drained 4)
    ∷ answered Do.Turn (Say.Refused None (Place.Line 1) 0)
    ∷ answered (Do.Back 2) Say.NoSnap
    ∷ answered (Do.Part 0 2 23 30 (line_of (replicate 30 5 ++ replicate 34 0))) Say.Ok
    ∷ answered (Do.Flip 325 437) Say.Ok
    ∷ answered_with (Do.Drain 0) ((Seal 1 (ctr 1 1) (line_of (range_with_len 35 29 ++ range_with_len 0 32 ++ 96 ∷ 97 ∷ 98 ∷ [])) (short_tag 81)) ∷ []) (Say.Drained 4)
    ∷ answered_with (Do.Drain 0) ((Seal 1 (ctr 1 2) (line_of (range_with_len 120 4 ++ range_with_len 116 4 ++ range_with_len 112 4 ++ range_with_len 108 4 ++ range_with_len 104 4 ++ range_with_len 100 4 ++ range_with_len 96 4 ++ range_with_len 92 4 ++ range_with_len 88 4 ++ range_with_len 84 4 ++ range_with_len 80 4 ++ range_with_len 76 4 ++ range_with_len 72 4 ++ range_with_len 68 4 ++ range_with_len 64 4 ++ range_with_len 60 4)) (short_tag 18)) ∷ []) (Say.Drained 4)
    ∷ answered Do.Turn (Say.Refused None (Place.Line 3) 0)
    ∷ answered (Do.Post 0 0 (filled_line 128)) Say.Ok
    ∷ answered (Do.Part 0 2 15 41 (line_of (replicate 41 104 ++ replicate 23 0))) Say.Ok
    ∷ answered (Do.Post 1 0 (filled_line 68)) Say.Ok
    ∷ answered_with (Do.Drain 0) ((Seal 1 (ctr 1 3) (line_of (121 ∷ 122 ∷ 123 ∷ range_with_len 116 4 ++ range_with_len 112 4 ++ range_with_len 108 4 ++ range_with_len 104 4 ++ 115 ∷ 114 ∷ 113 ∷ 112 ∷ 119 ∷ 118 ∷ 117 ∷ 116 ∷ 75 ∷ 74 ∷ 73 ∷ 72 ∷ 79 ∷ 78 ∷ 77 ∷ 76 ∷ 67 ∷ 66 ∷ 65 ∷ 64 ∷ 71 ∷ 70 ∷ 69 ∷ 68 ∷ 91 ∷ 90 ∷ 89 ∷ 88 ∷ 95 ∷ 94 ∷ 93 ∷ 92 ∷ 83 ∷ 82 ∷ 81 ∷ 80 ∷ 87 ∷ 86 ∷ 85 ∷ 84 ∷ 43 ∷ 42 ∷ 62 ∷ 63 ∷ 56 ∷ [])) (short_tag 83)) ∷ []) (Say.Drained 4)
    ∷ answered Do.Turn (Say.Refused None (Place.Line 3) 0)
    ∷ answered (Do.Flip 325 20) Say.Ok
    ∷ answered Do.Flush (Say.Flushed 0 1)
    ∷ answered Do.Turn (Say.Refused None (Place.Line 3) 0)
    ∷ answered (Do.Post 1 2 (filled_line 104)) Say.Ok
    ∷ answered Do.On Say.Already
    ∷ answered_with (Do.Drain 0) ((Seal 2 (ctr 1 2) (line_of (48 ∷ 51 ∷ 50 ∷ 61 ∷ 60 ∷ 63 ∷ 62 ∷ 57 ∷ 56 ∷ 59 ∷ 58 ∷ 37 ∷ 36 ∷ 39 ∷ 38 ∷ 33 ∷ 32 ∷ 35 ∷ 34 ∷ 45 ∷ 44 ∷ 47 ∷ 46 ∷ 25 ∷ 24 ∷ 27 ∷ 26 ∷ 37 ∷ 36 ∷ 39 ∷ 38 ∷ 33 ∷ 32 ∷ 35 ∷ 34 ∷ 45 ∷ 44 ∷ 47 ∷ 46 ∷ 41 ∷ 40 ∷ 43 ∷ 42 ∷ 53 ∷ 52 ∷ 55 ∷ 54 ∷ 49 ∷ 48 ∷ 51 ∷ 50 ∷ 61 ∷ 60 ∷ 15 ∷ 14 ∷ 9 ∷ 8 ∷ 11 ∷ 10 ∷ 117 ∷ 116 ∷ 119 ∷ 118 ∷ 113 ∷ [])) (short_tag 81)) ∷ []) (Say.Drained 4)
    ∷ answered (Do.Post 0 2 (filled_line 219)) Say.Ok
    ∷ answered_with (Do.Drain 0) ((Seal 0 (ctr 1 2) (line_of (range_with_len 131 64)) (short_tag 83)) ∷ []) (Say.Drained 4)
    ∷ answered (Do.Post 0 0 (filled_line 213)) Say.Ok
    ∷ answered Do.On Say.Already
    ∷ answered (Do.Post 0 2 (filled_line 70)) Say.Ok
    ∷ answered (Do.Post 0 0 (filled_line 244)) Say.Ok
    ∷ answered (Do.Post 0 1 (filled_line 182)) Say.Ok
    ∷ answered (Do.Post 0 2 (filled_line 69)) Say.Ok
    ∷ answered (Do.Peek 13) (Say.Raw (line_of (range_with_len 13 64)))
    ∷ answered Do.On Say.Already
    ∷ answered (Do.Post 0 0 (filled_line 83)) Say.Ok
    ∷ answered_with (Do.Fence 0) ((Seal 2 (ctr 1 3) (line_of (51 ∷ 50 ∷ 61 ∷ 60 ∷ 63 ∷ 62 ∷ 57 ∷ 56 ∷ 59 ∷ 58 ∷ 37 ∷ 36 ∷ 39 ∷ 38 ∷ 33 ∷ 125 ∷ 126 ∷ 127 ∷ range_with_len 112 8 ++ range_with_len 72 8 ++ range_with_len 64 8 ++ range_with_len 88 8 ++ range_with_len 80 6 ++ 11 ∷ 10 ∷ 117 ∷ 116 ∷ 119 ∷ 118 ∷ 113 ∷ 112 ∷ [])) (short_tag 77)) ∷ (Seal 2 (ctr 1 4) (line_of (220 ∷ 211 ∷ 210 ∷ 209 ∷ 208 ∷ 215 ∷ 214 ∷ 213 ∷ 212 ∷ 203 ∷ 202 ∷ 201 ∷ 200 ∷ 207 ∷ 206 ∷ 205 ∷ 204 ∷ 195 ∷ 194 ∷ 193 ∷ 192 ∷ 199 ∷ 198 ∷ 197 ∷ 196 ∷ 251 ∷ 250 ∷ 249 ∷ 248 ∷ 255 ∷ 254 ∷ 253 ∷ 252 ∷ 243 ∷ 242 ∷ 241 ∷ 240 ∷ 247 ∷ 246 ∷ 245 ∷ 244 ∷ 235 ∷ 234 ∷ 233 ∷ 232 ∷ 239 ∷ 238 ∷ 237 ∷ 236 ∷ 227 ∷ 226 ∷ 225 ∷ 224 ∷ 231 ∷ 230 ∷ 229 ∷ 228 ∷ 155 ∷ 154 ∷ 153 ∷ 152 ∷ 159 ∷ 158 ∷ 157 ∷ [])) (short_tag 87)) ∷ (Seal 0 (ctr 1 3) (line_of (209 ∷ 208 ∷ 211 ∷ 210 ∷ 221 ∷ 220 ∷ 223 ∷ 222 ∷ 217 ∷ 216 ∷ 219 ∷ 218 ∷ 197 ∷ 196 ∷ 199 ∷ 198 ∷ 193 ∷ 192 ∷ 195 ∷ 194 ∷ 205 ∷ 204 ∷ 207 ∷ 206 ∷ 201 ∷ 200 ∷ 203 ∷ 202 ∷ 245 ∷ 244 ∷ 247 ∷ 246 ∷ 241 ∷ 240 ∷ 243 ∷ 242 ∷ 253 ∷ 252 ∷ 255 ∷ 254 ∷ 249 ∷ 248 ∷ 251 ∷ 250 ∷ 229 ∷ 228 ∷ 231 ∷ 230 ∷ 225 ∷ 224 ∷ 227 ∷ 226 ∷ 237 ∷ 236 ∷ 239 ∷ 238 ∷ 233 ∷ 232 ∷ 235 ∷ 234 ∷ 149 ∷ 148 ∷ 151 ∷ 150 ∷ [])) (short_tag 18)) ∷ (Seal 2 (ctr 1 5) (line_of (78 ∷ 79 ∷ 76 ∷ 77 ∷ 74 ∷ 75 ∷ 72 ∷ 73 ∷ 86 ∷ 87 ∷ 84 ∷ 85 ∷ 82 ∷ 83 ∷ 80 ∷ 81 ∷ 94 ∷ 95 ∷ 92 ∷ 93 ∷ 90 ∷ 91 ∷ 88 ∷ 89 ∷ 102 ∷ 103 ∷ 100 ∷ 101 ∷ 98 ∷ 99 ∷ 96 ∷ 97 ∷ 110 ∷ 111 ∷ 108 ∷ 109 ∷ 106 ∷ 107 ∷ 104 ∷ 105 ∷ 118 ∷ 119 ∷ 116 ∷ 117 ∷ 114 ∷ 115 ∷ 112 ∷ 113 ∷ 126 ∷ 127 ∷ 124 ∷ 125 ∷ 122 ∷ 123 ∷ 120 ∷ 121 ∷ 6 ∷ 7 ∷ 4 ∷ 5 ∷ 2 ∷ 3 ∷ 0 ∷ 1 ∷ [])) (short_tag 22)) ∷ (Seal 0 (ctr 1 4) (line_of (241 ∷ 242 ∷ 243 ∷ range_with_len 252 4 ++ range_with_len 248 4 ++ range_with_len 228 4 ++ range_with_len 224 4 ++ range_with_len 236 4 ++ range_with_len 232 4 ++ range_with_len 212 4 ++ range_with_len 208 4 ++ range_with_len 220 4 ++ range_with_len 216 4 ++ range_with_len 196 4 ++ range_with_len 192 4 ++ range_with_len 204 4 ++ range_with_len 200 4 ++ range_with_len 180 4 ++ 176 ∷ [])) (short_tag 85)) ∷ (Seal 1 (ctr 1 4) (line_of (176 ∷ 177 ∷ 190 ∷ 191 ∷ 188 ∷ 189 ∷ 186 ∷ 187 ∷ 184 ∷ 185 ∷ 166 ∷ 167 ∷ 164 ∷ 165 ∷ 162 ∷ 163 ∷ 160 ∷ 161 ∷ 174 ∷ 175 ∷ 172 ∷ 173 ∷ 170 ∷ 171 ∷ 168 ∷ 169 ∷ 150 ∷ 151 ∷ 148 ∷ 149 ∷ 146 ∷ 147 ∷ 144 ∷ 145 ∷ 158 ∷ 159 ∷ 156 ∷ 157 ∷ 154 ∷ 155 ∷ 152 ∷ 153 ∷ 134 ∷ 135 ∷ 132 ∷ 133 ∷ 130 ∷ 131 ∷ 128 ∷ 129 ∷ 142 ∷ 143 ∷ 140 ∷ 141 ∷ 138 ∷ 139 ∷ 136 ∷ 137 ∷ 246 ∷ 247 ∷ 244 ∷ 245 ∷ 242 ∷ 243 ∷ [])) (short_tag 20)) ∷ (Seal 2 (ctr 1 6) (line_of (76 ∷ 79 ∷ 78 ∷ 73 ∷ 72 ∷ 75 ∷ 74 ∷ 85 ∷ 84 ∷ 87 ∷ 86 ∷ 81 ∷ 80 ∷ 83 ∷ 82 ∷ 93 ∷ 92 ∷ 95 ∷ 94 ∷ 89 ∷ 88 ∷ 91 ∷ 90 ∷ 101 ∷ 100 ∷ 103 ∷ 102 ∷ 97 ∷ 96 ∷ 99 ∷ 98 ∷ 109 ∷ 108 ∷ 111 ∷ 110 ∷ 105 ∷ 104 ∷ 107 ∷ 106 ∷ 117 ∷ 116 ∷ 119 ∷ 118 ∷ 113 ∷ 112 ∷ 115 ∷ 114 ∷ 125 ∷ 124 ∷ 127 ∷ 126 ∷ 121 ∷ 120 ∷ 123 ∷ 122 ∷ 5 ∷ 4 ∷ 7 ∷ 6 ∷ 1 ∷ 0 ∷ 3 ∷ 2 ∷ 13 ∷ [])) (short_tag 85)) ∷ (Seal 0 (ctr 1 5) (line_of (85 ∷ 84 ∷ 91 ∷ 90 ∷ 89 ∷ 88 ∷ 95 ∷ 94 ∷ 93 ∷ 92 ∷ 67 ∷ 66 ∷ 65 ∷ 64 ∷ 71 ∷ 70 ∷ 69 ∷ 68 ∷ 75 ∷ 74 ∷ 73 ∷ 72 ∷ 79 ∷ 78 ∷ 77 ∷ 76 ∷ 115 ∷ 114 ∷ 113 ∷ 112 ∷ 119 ∷ 118 ∷ 117 ∷ 116 ∷ 123 ∷ 122 ∷ 121 ∷ 120 ∷ 127 ∷ 126 ∷ 125 ∷ 124 ∷ 99 ∷ 98 ∷ 97 ∷ 96 ∷ 103 ∷ 102 ∷ 101 ∷ 100 ∷ 107 ∷ 106 ∷ 105 ∷ 104 ∷ 111 ∷ 110 ∷ 109 ∷ 108 ∷ 19 ∷ 18 ∷ 17 ∷ 16 ∷ 23 ∷ 22 ∷ [])) (short_tag 20)) ∷ []) (Say.Fenced 8 35)
    ∷ answered (Do.Post 0 1 (filled_line 206)) Say.Ok
    ∷ answered (Do.Post 0 0 (filled_line 129)) Say.Ok
    ∷ answered (Do.Read 0 2) (Say.Got (filled_line 69) 0)
    ∷ answered_with (Do.Fence 0) ((Seal 1 (ctr 1 5) (line_of (201 ∷ 198 ∷ 199 ∷ 196 ∷ 197 ∷ 194 ∷ 195 ∷ 192 ∷ 193 ∷ 222 ∷ 223 ∷ 220 ∷ 221 ∷ 218 ∷ 219 ∷ 216 ∷ 217 ∷ 214 ∷ 215 ∷ 212 ∷ 213 ∷ 210 ∷ 211 ∷ 208 ∷ 209 ∷ 238 ∷ 239 ∷ 236 ∷ 237 ∷ 234 ∷ 235 ∷ 232 ∷ 233 ∷ 230 ∷ 231 ∷ 228 ∷ 229 ∷ 226 ∷ 227 ∷ 224 ∷ 225 ∷ 254 ∷ 255 ∷ 252 ∷ 253 ∷ 250 ∷ 251 ∷ 248 ∷ 249 ∷ 246 ∷ 247 ∷ 244 ∷ 245 ∷ 242 ∷ 243 ∷ 240 ∷ 241 ∷ 142 ∷ 143 ∷ 140 ∷ 141 ∷ 138 ∷ 139 ∷ 136 ∷ [])) (short_tag 85)) ∷ (Seal 0 (ctr 1 6) (line_of (134 ∷ 137 ∷ 136 ∷ 139 ∷ 138 ∷ 141 ∷ 140 ∷ 143 ∷ 142 ∷ 145 ∷ 144 ∷ 147 ∷ 146 ∷ 149 ∷ 148 ∷ 151 ∷ 150 ∷ 153 ∷ 152 ∷ 155 ∷ 154 ∷ 157 ∷ 156 ∷ 159 ∷ 158 ∷ 161 ∷ 160 ∷ 163 ∷ 162 ∷ 165 ∷ 164 ∷ 167 ∷ 166 ∷ 169 ∷ 168 ∷ 171 ∷ 170 ∷ 173 ∷ 172 ∷ 175 ∷ 174 ∷ 177 ∷ 176 ∷ 179 ∷ 178 ∷ 181 ∷ 180 ∷ 183 ∷ 182 ∷ 185 ∷ 184 ∷ 187 ∷ 186 ∷ 189 ∷ 188 ∷ 191 ∷ 190 ∷ 193 ∷ 192 ∷ 195 ∷ 194 ∷ 197 ∷ 196 ∷ 199 ∷ [])) (short_tag 87)) ∷ []) (Say.Fenced 2 8)
    ∷ answered (Do.Post 0 1 (filled_line 198)) Say.Ok
    ∷ answered (Do.Part 0 0 61 2 (line_of (113 ∷ 113 ∷ replicate 62 0))) Say.Ok
    ∷ answered (Do.Flip 325 48) Say.Ok
    ∷ answered (Do.Post 0 1 (filled_line 242)) Say.Ok
    ∷ answered Do.On Say.Already
    ∷ answered_with (Do.Drain 0) ((Seal 1 (ctr 1 6) (line_of (206 ∷ 207 ∷ 204 ∷ 205 ∷ 202 ∷ 203 ∷ 200 ∷ 201 ∷ 214 ∷ 215 ∷ 212 ∷ 213 ∷ 210 ∷ 211 ∷ 208 ∷ 209 ∷ 222 ∷ 223 ∷ 220 ∷ 221 ∷ 218 ∷ 219 ∷ 216 ∷ 217 ∷ 230 ∷ 231 ∷ 228 ∷ 229 ∷ 226 ∷ 227 ∷ 224 ∷ 225 ∷ 238 ∷ 239 ∷ 236 ∷ 237 ∷ 234 ∷ 235 ∷ 232 ∷ 233 ∷ 246 ∷ 247 ∷ 244 ∷ 245 ∷ 242 ∷ 243 ∷ 240 ∷ 241 ∷ 254 ∷ 255 ∷ 252 ∷ 253 ∷ 250 ∷ 251 ∷ 248 ∷ 249 ∷ 134 ∷ 135 ∷ 132 ∷ 133 ∷ 130 ∷ 131 ∷ 128 ∷ 129 ∷ [])) (short_tag 22)) ∷ []) (Say.Drained 4)
    ∷ answered (Do.Post 0 1 (filled_line 6)) Say.Ok
    ∷ []

-- With tampering, 60 commands
abbrev pub rare_8_setup : Setup
rare_8_setup =
    record {
      shape = record { levels = 1; sets = 2; ways = 1; loss = 8; major = 0; persist = 0; shadow = true; durable = false; combines = false };
      formulas = weak;
    }

abbrev pub rare_8 : Trace
rare_8 =
    answered (Do.Post 0 128 (filled_line 212)) Say.Ok
    ∷ answered (Do.Post 0 64 (filled_line 37)) Say.Ok
    ∷ answered (Do.Post 0 64 (filled_line 206)) Say.Ok
    ∷ answered Do.Off Say.Ok
    ∷ answered Do.On (Say.Recovered 0 1 0)
    ∷ answered (Do.Cut 10) Say.Ok
    ∷ answered (Do.Drain 0) Say.Empty
    ∷ answered (Do.Drain 0) Say.Empty
    ∷ answered (Do.Fence 1) (Say.Fenced 0 0)
    ∷ answered (Do.Post 0 128 (filled_line 246)) Say.Ok
    ∷ answered (Do.Post 0 128 (filled_line 57)) Say.Ok
    ∷ answered (Do.Post 0 0 (filled_line 166)) Say.Ok
    ∷ answered (Do.Post 0 128 (filled_line 22)) Say.Ok
    ∷ answered (Do.Peek 226) (Say.Raw (line_of (range_with_len 226 30 ++ range_with_len 0 34)))
    ∷ answered (Do.Part 0 64 43 16 (line_of (replicate 16 33 ++ replicate 48 0))) Say.Ok
    ∷ answered Do.Turn Say.Idle
    ∷ answered (Do.Post 0 64 (filled_line 95)) Say.Ok
    ∷ answered (Do.Post 0 128 (filled_line 245)) Say.Ok
    ∷ answered (Do.Drain 1) Say.Empty
    ∷ answered (Do.Post 1 128 (filled_line 249)) Say.Ok
    ∷ answered (Do.Part 0 64 53 6 (line_of (replicate 6 218 ++ replicate 58 0))) Say.Ok
    ∷ answered_with (Do.Drain 1) ((Seal 128 (ctr 0 1) (line_of (120 ∷ 123 ∷ 122 ∷ 125 ∷ 124 ∷ 127 ∷ 126 ∷ 113 ∷ 112 ∷ 115 ∷ 114 ∷ 117 ∷ 116 ∷ 119 ∷ 118 ∷ 105 ∷ 104 ∷ 107 ∷ 106 ∷ 109 ∷ 108 ∷ 111 ∷ 110 ∷ 97 ∷ 96 ∷ 99 ∷ 98 ∷ 101 ∷ 100 ∷ 103 ∷ 102 ∷ 89 ∷ 88 ∷ 91 ∷ 90 ∷ 93 ∷ 92 ∷ 95 ∷ 94 ∷ 81 ∷ 80 ∷ 83 ∷ 82 ∷ 85 ∷ 84 ∷ 87 ∷ 86 ∷ 73 ∷ 72 ∷ 75 ∷ 74 ∷ 77 ∷ 76 ∷ 79 ∷ 78 ∷ 65 ∷ 64 ∷ 67 ∷ 66 ∷ 69 ∷ 68 ∷ 71 ∷ 70 ∷ 57 ∷ [])) (short_tag 209)) ∷ []) (Say.Drained 6)
    ∷ answered (Do.Post 0 128 (filled_line 164)) Say.Ok
    ∷ answered_with (Do.Drain 0) ((Seal 128 (ctr 0 2) (line_of (116 ∷ 117 ∷ 114 ∷ 115 ∷ 112 ∷ 113 ∷ 126 ∷ 127 ∷ 124 ∷ 125 ∷ 122 ∷ 123 ∷ 120 ∷ 121 ∷ 102 ∷ 103 ∷ 100 ∷ 101 ∷ 98 ∷ 99 ∷ 96 ∷ 97 ∷ 110 ∷ 111 ∷ 108 ∷ 109 ∷ 106 ∷ 107 ∷ 104 ∷ 105 ∷ 86 ∷ 87 ∷ 84 ∷ 85 ∷ 82 ∷ 83 ∷ 80 ∷ 81 ∷ 94 ∷ 95 ∷ 92 ∷ 93 ∷ 90 ∷ 91 ∷ 88 ∷ 89 ∷ 70 ∷ 71 ∷ 68 ∷ 69 ∷ 66 ∷ 67 ∷ 64 ∷ 65 ∷ 78 ∷ 79 ∷ 76 ∷ 77 ∷ 74 ∷ 75 ∷ 72 ∷ 73 ∷ 54 ∷ 55 ∷ [])) (short_tag 146)) ∷ []) (Say.Drained 4)
    ∷ answered Do.Flush (Say.Cut 0)
    ∷ answered (Do.Post 0 128 (filled_line 124)) Say.Off
    ∷ answered Do.Off Say.Off
    ∷ answered (Do.Post 0 128 (filled_line 224)) Say.Off
    ∷ answered (Do.Post 0 0 (filled_line 79)) Say.Off
    ∷ answered Do.On (Say.Recovered 512 5 4)
    ∷ answered (Do.Post 0 64 (filled_line 187)) Say.Ok
    ∷ answered Do.Snap Say.Ok
    ∷ answered Do.Flush Say.Clean
    ∷ answered (Do.Post 0 0 (filled_line 115)) Say.Ok
    ∷ answered Do.Turn Say.Idle
    ∷ answered Do.On Say.Already
    ∷ answered_with (Do.Drain 0) ((Seal 64 (ctr 0 1) (line_of (250 ∷ 249 ∷ 248 ∷ 255 ∷ 254 ∷ 253 ∷ 252 ∷ 243 ∷ 242 ∷ 241 ∷ 240 ∷ 247 ∷ 246 ∷ 245 ∷ 244 ∷ 235 ∷ 234 ∷ 233 ∷ 232 ∷ 239 ∷ 238 ∷ 237 ∷ 236 ∷ 227 ∷ 226 ∷ 225 ∷ 224 ∷ 231 ∷ 230 ∷ 229 ∷ 228 ∷ 219 ∷ 218 ∷ 217 ∷ 216 ∷ 223 ∷ 222 ∷ 221 ∷ 220 ∷ 211 ∷ 210 ∷ 209 ∷ 208 ∷ 215 ∷ 214 ∷ 213 ∷ 212 ∷ 203 ∷ 202 ∷ 201 ∷ 200 ∷ 207 ∷ 206 ∷ 205 ∷ 204 ∷ 195 ∷ 194 ∷ 193 ∷ 192 ∷ 199 ∷ 198 ∷ 197 ∷ 196 ∷ 59 ∷ [])) (short_tag 145)) ∷ []) (Say.Drained 6)
    ∷ answered (Do.Post 1 128 (filled_line 50)) Say.Ok
    ∷ answered (Do.Cut 7) Say.Ok
    ∷ answered Do.On Say.Already
    ∷ answered_with (Do.Drain 1) ((Seal 128 (ctr 0 3) (line_of (177 ∷ 182 ∷ 183 ∷ 180 ∷ 181 ∷ 186 ∷ 187 ∷ 184 ∷ 185 ∷ 190 ∷ 191 ∷ 188 ∷ 189 ∷ 162 ∷ 163 ∷ 160 ∷ 161 ∷ 166 ∷ 167 ∷ 164 ∷ 165 ∷ 170 ∷ 171 ∷ 168 ∷ 169 ∷ 174 ∷ 175 ∷ 172 ∷ 173 ∷ 146 ∷ 147 ∷ 144 ∷ 145 ∷ 150 ∷ 151 ∷ 148 ∷ 149 ∷ 154 ∷ 155 ∷ 152 ∷ 153 ∷ 158 ∷ 159 ∷ 156 ∷ 157 ∷ 130 ∷ 131 ∷ 128 ∷ 129 ∷ 134 ∷ 135 ∷ 132 ∷ 133 ∷ 138 ∷ 139 ∷ 136 ∷ 137 ∷ 142 ∷ 143 ∷ 140 ∷ 141 ∷ 242 ∷ 243 ∷ 240 ∷ [])) (short_tag 211)) ∷ []) (Say.Drained 5)
    ∷ answered Do.Turn Say.Idle
    ∷ answered Do.On Say.Already
    ∷ answered (Do.Part 0 128 27 27 (line_of (replicate 27 137 ++ replicate 37 0))) Say.Ok
    ∷ answered (Do.Post 0 0 (filled_line 98)) Say.Ok
    ∷ answered Do.Turn Say.Idle
    ∷ answered (Do.Post 0 64 (filled_line 82)) Say.Ok
    ∷ answered (Do.Flip 0 14) Say.Ok
    ∷ answered (Do.Poke 324 (filled_line 42)) Say.Ok
    ∷ answered (Do.Drain 0) (Say.CutLost None 2)
    ∷ answered Do.On (Say.NoCounter 0 0)
    ∷ answered Do.On (Say.NoCounter 0 0)
    ∷ answered Do.Turn Say.Off
    ∷ answered Do.On (Say.NoCounter 0 0)
    ∷ answered Do.On (Say.NoCounter 0 0)
    ∷ answered (Do.Part 0 0 38 15 (line_of (replicate 15 235 ++ replicate 49 0))) Say.Off
    ∷ answered Do.On (Say.NoCounter 0 0)
    ∷ answered Do.On (Say.NoCounter 0 0)
    ∷ answered Do.On (Say.NoCounter 0 0)
    ∷ answered (Do.Flip 323 449) Say.Ok
    ∷ []

-- With tampering, 60 commands
abbrev pub rare_9_setup : Setup
rare_9_setup =
    record {
      shape = record { levels = 1; sets = 1; ways = 1; loss = 4; major = 0; persist = 0; shadow = true; durable = false; combines = false };
      formulas = weak;
    }

abbrev pub rare_9 : Trace
rare_9 =
    answered (Do.Post 1 64 (filled_line 232)) Say.Ok
    ∷ answered (Do.Cut 6) Say.Ok
    ∷ answered (Do.Post 0 64 (filled_line 17)) Say.Ok
    ∷ answered (Do.Peek 122) (Say.Raw (line_of (range_with_len 122 64)))
    ∷ answered_with (Do.Drain 0) ((Seal 64 (ctr 0 1) (line_of (80 ∷ 83 ∷ 82 ∷ 85 ∷ 84 ∷ 87 ∷ 86 ∷ 89 ∷ 88 ∷ 91 ∷ 90 ∷ 93 ∷ 92 ∷ 95 ∷ 94 ∷ 65 ∷ 64 ∷ 67 ∷ 66 ∷ 69 ∷ 68 ∷ 71 ∷ 70 ∷ 73 ∷ 72 ∷ 75 ∷ 74 ∷ 77 ∷ 76 ∷ 79 ∷ 78 ∷ 113 ∷ 112 ∷ 115 ∷ 114 ∷ 117 ∷ 116 ∷ 119 ∷ 118 ∷ 121 ∷ 120 ∷ 123 ∷ 122 ∷ 125 ∷ 124 ∷ 127 ∷ 126 ∷ 97 ∷ 96 ∷ 99 ∷ 98 ∷ 101 ∷ 100 ∷ 103 ∷ 102 ∷ 105 ∷ 104 ∷ 107 ∷ 106 ∷ 109 ∷ 108 ∷ 111 ∷ 110 ∷ 145 ∷ [])) (short_tag 145)) ∷ []) (Say.Drained 6)
    ∷ answered (Do.Read 0 0) (Say.Cut 0)
    ∷ answered Do.On (Say.Recovered 256 5 4)
    ∷ answered (Do.Post 0 0 (filled_line 39)) Say.Ok
    ∷ answered (Do.Fence 1) (Say.Fenced 0 0)
    ∷ answered Do.Turn Say.Idle
    ∷ answered (Do.Part 0 0 58 1 (line_of (107 ∷ replicate 63 0))) Say.Ok
    ∷ answered Do.Snap Say.Ok
    ∷ answered (Do.Post 0 1 (filled_line 115)) Say.Ok
    ∷ answered (Do.Post 0 0 (filled_line 188)) Say.Ok
    ∷ answered Do.Turn Say.Idle
    ∷ answered (Do.Post 1 0 (filled_line 111)) Say.Ok
    ∷ answered_with (Do.Drain 1) ((Seal 0 (ctr 0 1) (line_of (110 ∷ 109 ∷ 108 ∷ 107 ∷ 106 ∷ 105 ∷ 104 ∷ 103 ∷ 102 ∷ 101 ∷ 100 ∷ 99 ∷ 98 ∷ 97 ∷ 96 ∷ 127 ∷ 126 ∷ 125 ∷ 124 ∷ 123 ∷ 122 ∷ 121 ∷ 120 ∷ 119 ∷ 118 ∷ 117 ∷ 116 ∷ 115 ∷ 114 ∷ 113 ∷ 112 ∷ 79 ∷ 78 ∷ 77 ∷ 76 ∷ 75 ∷ 74 ∷ 73 ∷ 72 ∷ 71 ∷ 70 ∷ 69 ∷ 68 ∷ 67 ∷ 66 ∷ 65 ∷ 64 ∷ 95 ∷ 94 ∷ 93 ∷ 92 ∷ 91 ∷ 90 ∷ 89 ∷ 88 ∷ 87 ∷ 86 ∷ 85 ∷ 84 ∷ 83 ∷ 82 ∷ 81 ∷ 80 ∷ 47 ∷ [])) (short_tag 81)) ∷ []) (Say.Drained 6)
    ∷ answered (Do.Post 0 0 (filled_line 81)) Say.Ok
    ∷ answered (Do.Post 1 64 (filled_line 131)) Say.Ok
    ∷ answered (Do.Read 1 64) (Say.Got (filled_line 131) 0)
    ∷ answered Do.Off Say.Ok
    ∷ answered Do.On (Say.Recovered 256 5 4)
    ∷ answered (Do.Drain 0) Say.Empty
    ∷ answered Do.On Say.Already
    ∷ answered (Do.Read 0 0) (Say.Got (filled_line 111) 0)
    ∷ answered (Do.Fence 1) (Say.Fenced 0 0)
    ∷ answered (Do.Post 1 1 (filled_line 114)) Say.Ok
    ∷ answered (Do.Post 0 1 (filled_line 238)) Say.Ok
    ∷ answered Do.On Say.Already
    ∷ answered (Do.Read 1 64) (Say.Got (filled_line 17) 0)
    ∷ answered Do.Flush Say.Clean
    ∷ answered (Do.Post 0 1 (filled_line 38)) Say.Ok
    ∷ answered (Do.Flip 326 183) Say.Ok
    ∷ answered (Do.Post 1 0 (filled_line 41)) Say.Ok
    ∷ answered (Do.Post 0 0 (filled_line 246)) Say.Ok
    ∷ answered_with (Do.Drain 0) ((Seal 1 (ctr 0 1) (line_of (236 ∷ 237 ∷ 234 ∷ 235 ∷ 232 ∷ 233 ∷ 230 ∷ 231 ∷ 228 ∷ 229 ∷ 226 ∷ 227 ∷ 224 ∷ 225 ∷ 254 ∷ 255 ∷ 252 ∷ 253 ∷ 250 ∷ 251 ∷ 248 ∷ 249 ∷ 246 ∷ 247 ∷ 244 ∷ 245 ∷ 242 ∷ 243 ∷ 240 ∷ 241 ∷ 206 ∷ 207 ∷ 204 ∷ 205 ∷ 202 ∷ 203 ∷ 200 ∷ 201 ∷ 198 ∷ 199 ∷ 196 ∷ 197 ∷ 194 ∷ 195 ∷ 192 ∷ 193 ∷ 222 ∷ 223 ∷ 220 ∷ 221 ∷ 218 ∷ 219 ∷ 216 ∷ 217 ∷ 214 ∷ 215 ∷ 212 ∷ 213 ∷ 210 ∷ 211 ∷ 208 ∷ 209 ∷ 174 ∷ 175 ∷ [])) (short_tag 16)) ∷ []) (Say.Drained 6)
    ∷ answered (Do.Post 1 64 (filled_line 83)) Say.Ok
    ∷ answered (Do.Post 0 64 (filled_line 154)) Say.Ok
    ∷ answered (Do.Peek 62) (Say.Raw (line_of (range_with_len 62 64)))
    ∷ answered (Do.Post 1 1 (filled_line 69)) Say.Ok
    ∷ answered_with (Do.Drain 0) ((Seal 1 (ctr 0 2) (line_of (37 ∷ 34 ∷ 35 ∷ 32 ∷ 33 ∷ 46 ∷ 47 ∷ 44 ∷ 45 ∷ 42 ∷ 43 ∷ 40 ∷ 41 ∷ 54 ∷ 55 ∷ 52 ∷ 53 ∷ 50 ∷ 51 ∷ 48 ∷ 49 ∷ 62 ∷ 63 ∷ 60 ∷ 61 ∷ 58 ∷ 59 ∷ 56 ∷ 57 ∷ 6 ∷ 7 ∷ 4 ∷ 5 ∷ 2 ∷ 3 ∷ 0 ∷ 1 ∷ 14 ∷ 15 ∷ 12 ∷ 13 ∷ 10 ∷ 11 ∷ 8 ∷ 9 ∷ 22 ∷ 23 ∷ 20 ∷ 21 ∷ 18 ∷ 19 ∷ 16 ∷ 17 ∷ 30 ∷ 31 ∷ 28 ∷ 29 ∷ 26 ∷ 27 ∷ 24 ∷ 25 ∷ 102 ∷ 103 ∷ 100 ∷ [])) (short_tag 83)) ∷ []) (Say.Drained 4)
    ∷ answered (Do.Post 0 64 (filled_line 199)) Say.Ok
    ∷ answered Do.Turn Say.Idle
    ∷ answered (Do.Post 0 64 (filled_line 72)) Say.Ok
    ∷ answered Do.Flush (Say.Flushed 0 1)
    ∷ answered (Do.Post 0 1 (filled_line 70)) Say.Ok
    ∷ answered (Do.Post 0 64 (filled_line 173)) Say.Ok
    ∷ answered (Do.Part 0 64 23 5 (line_of (replicate 5 13 ++ replicate 59 0))) Say.Ok
    ∷ answered (Do.Post 0 1 (filled_line 247)) Say.Ok
    ∷ answered (Do.Cut 4) Say.Ok
    ∷ answered (Do.Part 0 1 30 24 (line_of (replicate 24 183 ++ replicate 40 0))) Say.Ok
    ∷ answered (Do.Read 0 0) (Say.Got (filled_line 246) 0)
    ∷ answered (Do.Part 0 0 43 2 (line_of (198 ∷ 198 ∷ replicate 62 0))) Say.Ok
    ∷ answered_with (Do.Fence 1) ((Seal 1 (ctr 0 3) (line_of (118 ∷ 119 ∷ 116 ∷ 117 ∷ 122 ∷ 123 ∷ 120 ∷ 121 ∷ 126 ∷ 127 ∷ 124 ∷ 125 ∷ 98 ∷ 99 ∷ 96 ∷ 97 ∷ 102 ∷ 103 ∷ 100 ∷ 101 ∷ 106 ∷ 107 ∷ 104 ∷ 105 ∷ 110 ∷ 111 ∷ 108 ∷ 109 ∷ 82 ∷ 83 ∷ 80 ∷ 81 ∷ 86 ∷ 87 ∷ 84 ∷ 85 ∷ 90 ∷ 91 ∷ 88 ∷ 89 ∷ 94 ∷ 95 ∷ 92 ∷ 93 ∷ 66 ∷ 67 ∷ 64 ∷ 65 ∷ 70 ∷ 71 ∷ 68 ∷ 69 ∷ 74 ∷ 75 ∷ 72 ∷ 73 ∷ 78 ∷ 79 ∷ 76 ∷ 77 ∷ 50 ∷ 51 ∷ 48 ∷ 49 ∷ [])) (short_tag 18)) ∷ []) (Say.CutLost (Some 1) 4)
    ∷ answered Do.On (Say.Recovered 255 5 4)
    ∷ answered Do.On Say.Already
    ∷ answered (Do.Post 0 0 (filled_line 104)) Say.Ok
    ∷ answered (Do.Post 1 64 (filled_line 80)) Say.Ok
    ∷ answered (Do.Cut 4) Say.Ok
    ∷ answered (Do.Post 1 1 (filled_line 185)) Say.Ok
    ∷ []
