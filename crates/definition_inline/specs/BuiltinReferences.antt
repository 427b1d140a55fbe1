-- The named character references that are built in: the 252 names of HTML 4 and 44 more of HTML 5.
use Rattle.std.specs.Prelude.{ℕ, List, ◌++◌, codes}
use Rattle.definition_inline.specs.CharacterReference.{Names}
use Rattle.definition_inline.specs.ReferenceRows.{Row, rows, text_in}

-- their rows as a text
unfoldable pub builtin_text : List ℕ
builtin_text =
    codes "AElig=C6\nAMP=26\nAacute=C1\nAcirc=C2\nAgrave=C0\nAlpha=391\nAring=C5\nAtilde=C3\nAuml=C4\n"
    ++ codes "Beta=392\nCOPY=A9\nCcedil=C7\nChi=3A7\nClockwiseContourIntegral=2232\nDagger=2021\nDcaron=10E\n"
    ++ codes "Delta=394\nDifferentialD=2146\nETH=D0\nEacute=C9\nEcirc=CA\nEgrave=C8\nEpsilon=395\nEta=397\n"
    ++ codes "Euml=CB\nGT=3E\nGamma=393\nHat=5E\nHilbertSpace=210B\nIacute=CD\nIcirc=CE\nIgrave=CC\nIota=399\n"
    ++ codes "Iuml=CF\nKappa=39A\nLT=3C\nLambda=39B\nMu=39C\nNewLine=A\nNtilde=D1\nNu=39D\nOElig=152\nOacute=D3\n"
    ++ codes "Ocirc=D4\nOgrave=D2\nOmega=3A9\nOmicron=39F\nOslash=D8\nOtilde=D5\nOuml=D6\nPhi=3A6\nPi=3A0\n"
    ++ codes "Prime=2033\nPsi=3A8\nQUOT=22\nREG=AE\nRho=3A1\nScaron=160\nSigma=3A3\nTHORN=DE\nTab=9\nTau=3A4\n"
    ++ codes "Theta=398\nUacute=DA\nUcirc=DB\nUgrave=D9\nUpsilon=3A5\nUuml=DC\nXi=39E\nYacute=DD\nYuml=178\n"
    ++ codes "Zeta=396\naacute=E1\nacirc=E2\nacute=B4\naelig=E6\nagrave=E0\nalefsym=2135\nalpha=3B1\namp=26\n"
    ++ codes "and=2227\nang=2220\napos=27\naring=E5\nast=2A\nasymp=2248\natilde=E3\nauml=E4\nbdquo=201E\n"
    ++ codes "beta=3B2\nbrvbar=A6\nbsol=5C\nbull=2022\ncap=2229\nccedil=E7\ncedil=B8\ncent=A2\nchi=3C7\ncirc=2C6\n"
    ++ codes "clubs=2663\ncolon=3A\ncomma=2C\ncommat=40\ncong=2245\ncopy=A9\ncrarr=21B5\ncup=222A\ncurren=A4\n"
    ++ codes "dArr=21D3\ndagger=2020\ndarr=2193\ndeg=B0\ndelta=3B4\ndiams=2666\ndivide=F7\ndollar=24\neacute=E9\n"
    ++ codes "ecirc=EA\negrave=E8\nempty=2205\nemsp=2003\nensp=2002\nepsilon=3B5\nequals=3D\nequiv=2261\neta=3B7\n"
    ++ codes "eth=F0\neuml=EB\neuro=20AC\nexcl=21\nexist=2203\nfnof=192\nforall=2200\nfrac12=BD\nfrac14=BC\n"
    ++ codes "frac34=BE\nfrasl=2044\ngamma=3B3\nge=2265\ngrave=60\ngt=3E\nhArr=21D4\nharr=2194\nhearts=2665\n"
    ++ codes "hellip=2026\niacute=ED\nicirc=EE\niexcl=A1\nigrave=EC\nimage=2111\ninfin=221E\nint=222B\niota=3B9\n"
    ++ codes "iquest=BF\nisin=2208\niuml=EF\nkappa=3BA\nlArr=21D0\nlambda=3BB\nlang=27E8\nlaquo=AB\nlarr=2190\n"
    ++ codes "lbrace=7B\nlbrack=5B\nlceil=2308\nlcub=7B\nldquo=201C\nle=2264\nlfloor=230A\nlowast=2217\n"
    ++ codes "lowbar=5F\nloz=25CA\nlpar=28\nlrm=200E\nlsaquo=2039\nlsqb=5B\nlsquo=2018\nlt=3C\nmacr=AF\n"
    ++ codes "mdash=2014\nmicro=B5\nmiddot=B7\nminus=2212\nmu=3BC\nnabla=2207\nnbsp=A0\nndash=2013\nne=2260\n"
    ++ codes "ngE=2267+338\nni=220B\nnot=AC\nnotin=2209\nnsub=2284\nntilde=F1\nnu=3BD\nnum=23\noacute=F3\n"
    ++ codes "ocirc=F4\noelig=153\nograve=F2\noline=203E\nomega=3C9\nomicron=3BF\noplus=2295\nor=2228\nordf=AA\n"
    ++ codes "ordm=BA\noslash=F8\notilde=F5\notimes=2297\nouml=F6\npara=B6\npart=2202\npercnt=25\nperiod=2E\n"
    ++ codes "permil=2030\nperp=22A5\nphi=3C6\npi=3C0\npiv=3D6\nplus=2B\nplusmn=B1\npound=A3\nprime=2032\n"
    ++ codes "prod=220F\nprop=221D\npsi=3C8\nquest=3F\nquot=22\nrArr=21D2\nradic=221A\nrang=27E9\nraquo=BB\n"
    ++ codes "rarr=2192\nrbrace=7D\nrbrack=5D\nrceil=2309\nrcub=7D\nrdquo=201D\nreal=211C\nreg=AE\nrfloor=230B\n"
    ++ codes "rho=3C1\nrlm=200F\nrpar=29\nrsaquo=203A\nrsqb=5D\nrsquo=2019\nsbquo=201A\nscaron=161\nsdot=22C5\n"
    ++ codes "sect=A7\nsemi=3B\nshy=AD\nsigma=3C3\nsigmaf=3C2\nsim=223C\nsol=2F\nspades=2660\nsub=2282\n"
    ++ codes "sube=2286\nsum=2211\nsup=2283\nsup1=B9\nsup2=B2\nsup3=B3\nsupe=2287\nszlig=DF\ntau=3C4\n"
    ++ codes "there4=2234\ntheta=3B8\nthetasym=3D1\nthinsp=2009\nthorn=FE\ntilde=2DC\ntimes=D7\ntrade=2122\n"
    ++ codes "uArr=21D1\nuacute=FA\nuarr=2191\nucirc=FB\nugrave=F9\numl=A8\nupsih=3D2\nupsilon=3C5\nuuml=FC\n"
    ++ codes "verbar=7C\nvert=7C\nweierp=2118\nxi=3BE\nyacute=FD\nyen=A5\nyuml=FF\nzeta=3B6\nzwj=200D\nzwnj=200C\n"

unfoldable pub builtin_rows : List Row
builtin_rows = rows builtin_text

-- the text of each name
abbrev pub builtin_names : Names
builtin_names name = text_in builtin_rows name
